use Rattle.std.proofs.Common.{[], ℕ, List}
use denote.Bor.{Bor}
use Rattle.balise_lines.specs.Writing.{LastFailed}
use Rattle.balise_lines.proofs.PartsWritten.{wrote_none, wrote_more, wrote_some}
use Rattle.balise_text.proofs.Lists.{text_left}
use Rattle.balise_text.proofs.printing.put_texts.Goals as goal

abbrev no_text : Bor (List ℕ)
no_text = record { ref_ptr = (0, 0); now = [] }

pub loop-text-init : goal.loop-text-init
loop-text-init g c = wrote_none _ _ _

pub loop-text-preserved : goal.loop-text-preserved
loop-text-preserved g c =
    wrote_more _ _ _ _ _ _ _ _ (text_left (λ t. t.now) c.args.texts.now c.loop-text.text-index no_text c.loop-text-test.true) c.loop-text.invariant c.in_default.ensures

pub returns-in-Err : goal.returns-in-Err
returns-in-Err g c =
    wrote_some LastFailed _ _ _ _ _ _ _ _ (text_left (λ t. t.now) c.args.texts.now c.loop-text.text-index no_text c.loop-text-test.true) c.loop-text.invariant c.in-Err.ensures
