use Rattle.std.proofs.Common.{◌∙◌, ap, refl, subst, sym}
use Rattle.balise_cli.specs.Output.{Good}
use Rattle.balise_cli.specs.Phases.{journal_end}
use Rattle.balise_cli.specs.Progress.{IsReadAs}
use Rattle.balise_cli.proofs.Endings.{refused_ran}
use Rattle.balise_cli.proofs.ReadsOn.{run_on}
use Rattle.balise_cli.proofs.running.run_session.Goals as goal

pub returns-in-Err : goal.returns-in-Err
returns-in-Err g c = λ had old go. c.in-Err.ensures.reads c.args.asked had old (g.W.Write.contents c.args.writer.now.inner) c.args.writer.now.failed go

pub returns-in-Ok-Bad : goal.returns-in-Ok-Bad
returns-in-Ok-Bad g c = λ had old go.
    let now = g.W.Write.contents c.args.writer.now.inner in
    let has = g.R.Read.remaining c.read_session.new.reader.inner in
    let read = c.in-Ok-Bad.ensures.reads in
    let is = subst (IsReadAs c.args.asked had old c.read_session.new.lines has now) (ap journal_end c.in-Ok-Bad.field-0-is) (read.1 c.args.asked had old now go) in
    refused_ran g.W.Write.contents c.args.asked had has old c.args.writer.now c.refuse.new.writer c.in-Ok-Bad.number c.in-Ok-Bad.refusal c.args.reader.now.failed c.read_session.new.reader.failed c.refuse.result is read.0
    c.refuse.ensures.status c.refuse.ensures.fault c.refuse.ensures.line

pub returns-in-Ok-Edits : goal.returns-in-Ok-Edits
returns-in-Ok-Edits g c =
    run_on g.R.Read.remaining _ _ refl c.args.lines.now c.read_session.new.lines c.args.reader.now c.read_session.new.reader c.in-Ok-Edits.field-0 journal_end c.in-Ok-Edits.ensures.reads
    g.W.Write.contents c.args.asked _ c.answer_commands-ended.new.reader c.args.writer.now c.answer_commands-ended.new.writer c.answer_commands-ended.result
    (ap journal_end c.in-Ok-Edits.field-0-is ∙ ap Good (sym c.new-commands.ensures)) c.answer_commands-ended.ensures
