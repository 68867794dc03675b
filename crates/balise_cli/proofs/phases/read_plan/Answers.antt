use Rattle.std.proofs.Common.{◌≡◌, ◌∙◌, ℕ, None, Some, ap, subst}
use Rattle.balise_lines.specs.Reading.{line_of, number_of}
use Rattle.balise_text.specs.PlanLines.{plan_line_of}
use Rattle.balise_text.specs.Texts.{Text}
use Rattle.balise_cli.specs.Output.{Bad, after_read, at_end}
use Rattle.balise_cli.specs.Phases.{LineMayRunOut, is_telegram, plan_phase, plan_read}
use Rattle.balise_cli.specs.Progress.{RanToFault}
use Rattle.balise_cli.proofs.Endings.{end_out, end_refused, line_out, line_read, read_here}
use Rattle.balise_text.proofs.LinesTaken.{took_line, took_none}
use Rattle.balise_cli.proofs.OneLine.{none_of_end, none_of_line, plan_reading}
use Rattle.balise_cli.proofs.phases.read_plan.Goals as goal

pub returns-in-Err-clause-reads : goal.returns-in-Err-clause-reads
returns-in-Err-clause-reads g c = λ asked had old now writes go.
    subst (λ (k : ℕ). RanToFault asked had (g.R.Read.remaining c.next.new.reader.inner) old now k c.next.new.reader.failed writes writes c.in-Err.fault) c.lines.invariant.0
    (c.in-Err.ensures.fault (plan_phase c.lines.plan) asked had old now writes (c.lines.invariant.2 asked had old now go))

pub returns-in-Ok-clause-reads : goal.returns-in-Ok-clause-reads
returns-in-Ok-clause-reads g c =
    let p = plan_phase c.lines.plan in
    let none = took_none _ c.lines.lines c.next.new.lines (g.R.Read.remaining c.lines.reader.inner) (g.R.Read.remaining c.next.new.reader.inner) c.in-Ok-End.field-0-is c.in-Ok-End.ensures.took in (
      c.in-Ok-End.ensures.unfailed ∙ c.lines.invariant.0,
      λ asked had old now go.
          end_refused asked had old now p _ _ _ _ (c.lines.invariant.2 asked had old now go) none c.in-Ok-End.ensures.over c.in-Ok.number c.in-Ok.refusal
          (subst (λ (k : ℕ). at_end asked p k ≡ after_read (Bad c.in-Ok.number c.in-Ok.refusal)) c.number-number.ensures (c.in-Ok.ensures.ok asked)),
    )

pub returns-in-Err-end-clause-reads : goal.returns-in-Err-end-clause-reads
returns-in-Err-end-clause-reads g c =
    let p = plan_phase c.lines.plan in
    let none = took_none _ c.lines.lines c.next.new.lines (g.R.Read.remaining c.lines.reader.inner) (g.R.Read.remaining c.next.new.reader.inner) c.in-Ok-End.field-0-is c.in-Ok-End.ensures.took in
    λ asked had old now writes go.
    end_out asked had old now p _ _ _ _ (c.lines.invariant.2 asked had old now go) none c.in-Ok-End.ensures.over c.in-Err-end.fault c.in-Err-end.ensures.fault (none_of_end asked p now c.in-Err-end.ensures.takes)
    c.args.reader.now.failed c.next.new.reader.failed writes (c.in-Ok-End.ensures.unfailed ∙ c.lines.invariant.0)

pub returns-in-Err-read-clause-reads : goal.returns-in-Err-read-clause-reads
returns-in-Err-read-clause-reads g c =
    let p = plan_phase c.lines.plan in
    let took = took_line _ _ c.lines.lines c.next.new.lines (g.R.Read.remaining c.lines.reader.inner) (g.R.Read.remaining c.next.new.reader.inner) c.in-Ok-Line.field-0-is c.in-Ok-Line.ensures.took in
    λ asked had old now writes go.
    line_out asked had old now p _ _ _ _ (c.lines.invariant.2 asked had old now go) _ took c.in-Ok-Line.ensures.over (plan_reading c.lines.plan.stage c.lines.plan.plan) c.in-Err-read.fault c.in-Err-read.ensures.fault
    (none_of_line asked p (number_of c.lines.lines) (line_of c.next.new.lines) now (subst (λ (t : Text). LineMayRunOut p (is_telegram (plan_line_of t))) c.line.ensures c.in-Err-read.ensures.takes))
    c.args.reader.now.failed c.next.new.reader.failed writes (c.in-Ok-Line.ensures.unfailed ∙ c.lines.invariant.0)

pub returns-in-Ok-Some-clause-reads : goal.returns-in-Ok-Some-clause-reads
returns-in-Ok-Some-clause-reads g c =
    let p = plan_phase c.lines.plan in
    let q = plan_read c.read.new.self (Some c.in-Ok-Some.end) in
    let took = took_line _ _ c.lines.lines c.next.new.lines (g.R.Read.remaining c.lines.reader.inner) (g.R.Read.remaining c.next.new.reader.inner) c.in-Ok-Line.field-0-is c.in-Ok-Line.ensures.took in
    let read = read_here p c.number-number.result (number_of c.lines.lines) c.line.result.now (line_of c.next.new.lines) q c.number-number.ensures c.line.ensures (c.in-Ok-Some.ensures.ok ∙ ap (plan_read c.read.new.self) c.in-Ok-Some.field-0-is) in (
      c.in-Ok-Line.ensures.unfailed ∙ c.lines.invariant.0,
      λ asked had old now go. line_read asked had old now p _ _ _ _ (c.lines.invariant.2 asked had old now go) _ took c.in-Ok-Line.ensures.over (plan_reading c.lines.plan.stage c.lines.plan.plan) q read,
    )

pub lines-preserved : goal.lines-preserved
lines-preserved g c =
    let p = plan_phase c.lines.plan in
    let took = took_line _ _ c.lines.lines c.next.new.lines (g.R.Read.remaining c.lines.reader.inner) (g.R.Read.remaining c.next.new.reader.inner) c.in-Ok-Line.field-0-is c.in-Ok-Line.ensures.took in (
      c.in-Ok-Line.ensures.unfailed ∙ c.lines.invariant.0,
      c.in-Ok-Line.ensures.over,
      λ asked had old now go.
          line_read asked had old now p _ _ _ _ (c.lines.invariant.2 asked had old now go) _ took c.in-Ok-Line.ensures.over (plan_reading c.lines.plan.stage c.lines.plan.plan) (plan_read c.read.new.self None)
          (read_here p c.number-number.result (number_of c.lines.lines) c.line.result.now (line_of c.next.new.lines) (plan_read c.read.new.self None) c.number-number.ensures c.line.ensures (c.in-Ok-None.ensures.ok ∙ ap (plan_read c.read.new.self) c.in-Ok-None.field-0-is)),
    )
