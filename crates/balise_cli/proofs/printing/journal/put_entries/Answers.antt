use Rattle.std.proofs.Common.{ap, sym}
use Rattle.balise_lines.specs.Writing.{LastFailed}
use Rattle.balise_lines.proofs.PartsWritten.{all_as, some_as, wrote_none, wrote_more, wrote_some}
use Rattle.balise_cli.specs.PlanTexts.{entry_line}
use Rattle.balise_rules.specs.Journal.{line_of}
use Rattle.balise_text.specs.Entries.{entry_text}
use Rattle.balise_cli.proofs.ItemTexts.{text_next}
use Rattle.balise_cli.proofs.Stopped.{line_left, stopped}
use Rattle.balise_cli.specs.Private.{told}
use Rattle.balise_cli.proofs.Causes.{call_failed}
use Rattle.balise_cli.proofs.printing.journal.put_entries.Goals as goal

pub loop-entry-init : goal.loop-entry-init
loop-entry-init g c = wrote_none _ _ _

pub loop-entry-preserved : goal.loop-entry-preserved
loop-entry-preserved g c =
    let e = text_next told c.args.entries.now c.loop-entry.entry-index c.entry-item.result c.loop-entry-test.true c.entry-item.is in
    wrote_more _ _ _ _ _ _ _ _ e c.loop-entry.invariant (all_as _ (told c.entry-item.result) _ _ _ (ap entry_line (sym c.in-Ok.ensures.ok)) c.in_default-put_entry.ensures)

pub returns-in-Err : goal.returns-in-Err
returns-in-Err g c =
    let e = text_next told c.args.entries.now c.loop-entry.entry-index c.entry-item.result c.loop-entry-test.true c.entry-item.is in
    call_failed _ _ _ _ _ c.from.ensures (wrote_some LastFailed _ _ _ _ _ _ _ _ e c.loop-entry.invariant (some_as LastFailed _ (told c.entry-item.result) _ _ _ (ap entry_line (sym c.in-Ok.ensures.ok)) c.in-Err.ensures))

pub returns-in_default : goal.returns-in_default
returns-in_default g c =
    let e = text_next told c.args.entries.now c.loop-entry.entry-index c.entry-item.result c.loop-entry-test.true c.entry-item.is in
    stopped _ _ _ _ _ (line_left _ (entry_text (line_of c.entry-item.result)) _ e) c.loop-entry.invariant
