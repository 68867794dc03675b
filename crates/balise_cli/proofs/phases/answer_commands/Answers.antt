use Rattle.std.proofs.Common.{◌≡◌, ◌∙◌, ℕ, Err, None, Some, ap, subst}
use Rattle.balise_lines.specs.Reading.{line_of, number_of}
use Rattle.balise_text.specs.Texts.{Text}
use Rattle.balise_text.specs.Printing.{IsCause}
use Rattle.balise_text.specs.declared.run_fault.RunFault.TheVariants.{OutOfMemory, WriteFault}
use Rattle.balise_cli.specs.Phases.{DidPart, DidSome, DidStep, WrittenOfLine, WroteSuch, commands_phase}
use Rattle.balise_cli.specs.Progress.{RanToFault}
use Rattle.balise_cli.proofs.Endings.{commands_ended, line_fails, line_over, went_on}
use Rattle.balise_text.proofs.LinesTaken.{took_line, took_none}
use Rattle.balise_cli.proofs.OneLine.{did_some}
use Rattle.balise_cli.proofs.phases.answer_commands.Goals as goal

pub returns-in-Err : goal.returns-in-Err
returns-in-Err g c = λ had old go.
    let has = g.R.Read.remaining c.next.new.reader.inner in
    let now = g.W.Write.contents c.lines.writer.inner in
    subst (λ (k : ℕ). RanToFault c.args.asked had has old now k c.next.new.reader.failed c.args.writer.now.failed c.lines.writer.failed c.in-Err.fault) c.lines.invariant.0
    (subst (λ (k : ℕ). RanToFault c.args.asked had has old now c.lines.reader.failed c.next.new.reader.failed k c.lines.writer.failed c.in-Err.fault) c.lines.invariant.1
    (c.in-Err.ensures.fault (commands_phase c.lines.commands) c.args.asked had old now c.lines.writer.failed (c.lines.invariant.3 had old go)))

pub returns-in-Ok-End : goal.returns-in-Ok-End
returns-in-Ok-End g c = λ had old go.
    let was = g.R.Read.remaining c.lines.reader.inner in
    let has = g.R.Read.remaining c.next.new.reader.inner in
    let none = took_none _ c.lines.lines c.next.new.lines was has c.in-Ok-End.field-0-is c.in-Ok-End.ensures.took in
    commands_ended g.W.Write.contents c.args.asked had old c.lines.commands.session.state c.lines.commands.refused c.lines.lines c.next.new.lines was has c.lines.writer c.end.new.writer c.end.result (c.lines.invariant.3 had old go) none c.in-Ok-End.ensures.over
    c.args.reader.now.failed c.next.new.reader.failed c.args.writer.now.failed (c.in-Ok-End.ensures.unfailed ∙ c.lines.invariant.0) c.lines.invariant.1 c.end.ensures.status c.end.ensures.prints

pub returns-in-Err-answer : goal.returns-in-Err-answer
returns-in-Err-answer g c = λ had old go.
    let now = g.W.Write.contents c.lines.writer.inner in
    let new = g.W.Write.contents c.answer.new.writer.inner in
    let p = commands_phase c.lines.commands in
    let n = number_of c.lines.lines in
    let bytes = line_of c.next.new.lines in
    let such : c.in-Err-answer.fault ≡ OutOfMemory → WroteSuch (WrittenOfLine c.args.asked p n bytes) now new = λ e. subst (λ (t : Text). WroteSuch (WrittenOfLine c.args.asked p n t) now new) c.line.ensures (c.in-Err-answer.ensures.memory (ap Err e)) in
    let part : c.in-Err-answer.fault ≡ WriteFault → DidPart c.args.asked p n bytes now new = λ e. subst (λ (t : Text). DidPart c.args.asked p n t now new) c.line.ensures (c.in-Err-answer.ensures.written (ap Err e)) in
    let did : DidSome c.args.asked p n bytes now new = did_some c.args.asked c.lines.commands.session.state c.lines.commands.refused n bytes now new c.lines.writer.failed c.answer.new.writer.failed c.in-Err-answer.fault c.in-Err-answer.ensures.cause part such in
    let took = took_line _ _ c.lines.lines c.next.new.lines (g.R.Read.remaining c.lines.reader.inner) (g.R.Read.remaining c.next.new.reader.inner) c.in-Ok-Line.field-0-is c.in-Ok-Line.ensures.took in
    line_fails c.args.asked had old now p _ _ _ _ (c.lines.invariant.3 had old go) _ took c.in-Ok-Line.ensures.over new c.in-Err-answer.fault
    c.args.reader.now.failed c.next.new.reader.failed c.args.writer.now.failed c.answer.new.writer.failed did part such
    (c.in-Ok-Line.ensures.unfailed ∙ c.lines.invariant.0) (subst (λ (k : ℕ). IsCause k c.answer.new.writer.failed c.in-Err-answer.fault) c.lines.invariant.1 c.in-Err-answer.ensures.cause)

pub returns-in-Ok-Some : goal.returns-in-Ok-Some
returns-in-Ok-Some g c = λ had old go.
    let did : DidStep c.args.asked (commands_phase c.lines.commands) (number_of c.lines.lines) (line_of c.next.new.lines) (g.W.Write.contents c.lines.writer.inner) (g.W.Write.contents c.answer.new.writer.inner) (commands_phase c.answer.new.self) (Some c.in-Ok-Some.status)
    = subst (λ (t : Text). DidStep c.args.asked (commands_phase c.lines.commands) (number_of c.lines.lines) t (g.W.Write.contents c.lines.writer.inner) (g.W.Write.contents c.answer.new.writer.inner) (commands_phase c.answer.new.self) (Some c.in-Ok-Some.status)) c.line.ensures
    (subst (DidStep c.args.asked (commands_phase c.lines.commands) (number_of c.lines.lines) c.line.result.now (g.W.Write.contents c.lines.writer.inner) (g.W.Write.contents c.answer.new.writer.inner) (commands_phase c.answer.new.self)) c.in-Ok-Some.field-0-is c.in-Ok-Some.ensures.ok) in
    let took = took_line _ _ c.lines.lines c.next.new.lines (g.R.Read.remaining c.lines.reader.inner) (g.R.Read.remaining c.next.new.reader.inner) c.in-Ok-Line.field-0-is c.in-Ok-Line.ensures.took in
    line_over c.args.asked had old (g.W.Write.contents c.lines.writer.inner) (commands_phase c.lines.commands) _ _ _ _ (c.lines.invariant.3 had old go) _ took c.in-Ok-Line.ensures.over (g.W.Write.contents c.answer.new.writer.inner) (commands_phase c.answer.new.self) c.in-Ok-Some.status
    c.args.reader.now.failed c.next.new.reader.failed c.args.writer.now.failed c.answer.new.writer.failed did (c.in-Ok-Line.ensures.unfailed ∙ c.lines.invariant.0) (c.in-Ok-Some.ensures.unfailed ∙ c.lines.invariant.1)

pub lines-preserved : goal.lines-preserved
lines-preserved g c =
    let now = g.W.Write.contents c.lines.writer.inner in
    let new = g.W.Write.contents c.answer.new.writer.inner in
    let p = commands_phase c.lines.commands in
    let q = commands_phase c.answer.new.self in
    let n = number_of c.lines.lines in
    let did : DidStep c.args.asked p n (line_of c.next.new.lines) now new q None = subst (λ (t : Text). DidStep c.args.asked p n t now new q None) c.line.ensures (subst (DidStep c.args.asked p n c.line.result.now now new q) c.in-Ok-None.field-0-is c.in-Ok-None.ensures.ok) in
    let took = took_line _ _ c.lines.lines c.next.new.lines (g.R.Read.remaining c.lines.reader.inner) (g.R.Read.remaining c.next.new.reader.inner) c.in-Ok-Line.field-0-is c.in-Ok-Line.ensures.took in (
      c.in-Ok-Line.ensures.unfailed ∙ c.lines.invariant.0,
      c.in-Ok-None.ensures.unfailed ∙ c.lines.invariant.1,
      c.in-Ok-Line.ensures.over,
      λ had old go. went_on c.args.asked had old now p _ _ _ _ (c.lines.invariant.3 had old go) _ took c.in-Ok-Line.ensures.over new q did,
    )
