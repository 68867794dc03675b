use Rattle.std.proofs.Common.{◌∙◌, ℕ, false, [], ap, refl, subst, sym}
use Rattle.std.proofs.KnownBytes.{Appends-nil}
use Rattle.balise_rules.specs.declared.refusal.Refusal.TheVariants.{BadLine}
use Rattle.balise_lines.specs.Reading.{line_of, number_of}
use Rattle.balise_history.specs.Sessions.{Seen}
use Rattle.balise_cli.specs.Output.{Bad, Commands, Good, after_read}
use Rattle.balise_cli.specs.Phases.{MayRunOutAt, journal_end, journal_phase, journal_step}
use Rattle.balise_cli.specs.Progress.{RanToFault}
use Rattle.balise_cli.specs.declared.journal_reader.JournalEnd.TheVariants as journal
use Rattle.balise_cli.specs.declared.journal_reader.JournalStep.TheVariants as step
use Rattle.balise_cli.proofs.Endings.{end_refused, line_out, line_read, read_here}
use Rattle.balise_text.proofs.LinesTaken.{took_line, took_none}
use Rattle.balise_cli.proofs.phases.read_journal.Goals as goal

pub returns-in-Err-clause-reads : goal.returns-in-Err-clause-reads
returns-in-Err-clause-reads g c = λ asked had old now writes go.
    subst (λ (k : ℕ). RanToFault asked had (g.R.Read.remaining c.next.new.reader.inner) old now k c.next.new.reader.failed writes writes c.in-Err.fault) c.lines.invariant.0
    (c.in-Err.ensures.fault (journal_phase c.lines.journal) asked had old now writes (c.lines.invariant.2 asked had old now go))

pub returns-in-Ok-End-clause-reads : goal.returns-in-Ok-End-clause-reads
returns-in-Ok-End-clause-reads g c = (
  c.in-Ok-End.ensures.unfailed ∙ c.lines.invariant.0,
  λ asked had old now go.
      end_refused asked had old now (journal_phase c.lines.journal) _ _ _ _ (c.lines.invariant.2 asked had old now go)
      (took_none _ c.lines.lines c.next.new.lines (g.R.Read.remaining c.lines.reader.inner) (g.R.Read.remaining c.next.new.reader.inner) c.in-Ok-End.field-0-is c.in-Ok-End.ensures.took) c.in-Ok-End.ensures.over c.number-number.result BadLine
      (ap (λ (k : ℕ). after_read (Bad k BadLine)) (sym c.number-number.ensures)),
)

pub returns-in-Err-read-clause-reads : goal.returns-in-Err-read-clause-reads
returns-in-Err-read-clause-reads g c =
    let took = took_line _ _ c.lines.lines c.next.new.lines (g.R.Read.remaining c.lines.reader.inner) (g.R.Read.remaining c.next.new.reader.inner) c.in-Ok-Line.field-0-is c.in-Ok-Line.ensures.took in
    λ asked had old now writes go.
    line_out asked had old now (journal_phase c.lines.journal) _ _ _ _ (c.lines.invariant.2 asked had old now go) _ took c.in-Ok-Line.ensures.over tt c.in-Err-read.fault c.in-Err-read.ensures.fault ([], ((subst (MayRunOutAt c.lines.journal.section c.lines.journal.opening.state) c.line.ensures c.in-Err-read.ensures.takes, refl), Appends-nil now))
    c.args.reader.now.failed c.next.new.reader.failed writes (c.in-Ok-Line.ensures.unfailed ∙ c.lines.invariant.0)

pub returns-in-Ok-Edits-clause-reads : goal.returns-in-Ok-Edits-clause-reads
returns-in-Ok-Edits-clause-reads g c =
    let p = journal_phase c.lines.journal in
    let q = journal_end (journal.Edits c.session.result) in
    let took = took_line _ _ c.lines.lines c.next.new.lines (g.R.Read.remaining c.lines.reader.inner) (g.R.Read.remaining c.next.new.reader.inner) c.in-Ok-Line.field-0-is c.in-Ok-Line.ensures.took in
    let read = read_here p c.number-number.result (number_of c.lines.lines) c.line.result.now (line_of c.next.new.lines) q c.number-number.ensures c.line.ensures (c.in-Ok-Edits.ensures.ok ∙ ap (journal_step c.read.new.self) c.in-Ok-Edits.field-0-is ∙ ap (λ (s : Seen). Good (Commands s.state false)) (sym c.session.ensures)) in (
      c.in-Ok-Line.ensures.unfailed ∙ c.lines.invariant.0,
      λ asked had old now go. line_read asked had old now p _ _ _ _ (c.lines.invariant.2 asked had old now go) _ took c.in-Ok-Line.ensures.over tt q read,
    )

pub returns-in-Ok-Bad-clause-reads : goal.returns-in-Ok-Bad-clause-reads
returns-in-Ok-Bad-clause-reads g c =
    let p = journal_phase c.lines.journal in
    let q = journal_step c.read.new.self (step.Bad c.in-Ok-Bad.number c.in-Ok-Bad.refusal) in
    let took = took_line _ _ c.lines.lines c.next.new.lines (g.R.Read.remaining c.lines.reader.inner) (g.R.Read.remaining c.next.new.reader.inner) c.in-Ok-Line.field-0-is c.in-Ok-Line.ensures.took in
    let read = read_here p c.number-number.result (number_of c.lines.lines) c.line.result.now (line_of c.next.new.lines) q c.number-number.ensures c.line.ensures (c.in-Ok-Bad.ensures.ok ∙ ap (journal_step c.read.new.self) c.in-Ok-Bad.field-0-is) in (
      c.in-Ok-Line.ensures.unfailed ∙ c.lines.invariant.0,
      λ asked had old now go. line_read asked had old now p _ _ _ _ (c.lines.invariant.2 asked had old now go) _ took c.in-Ok-Line.ensures.over tt q read,
    )

pub lines-preserved : goal.lines-preserved
lines-preserved g c =
    let p = journal_phase c.lines.journal in
    let q = journal_step c.read.new.self step.On in
    let took = took_line _ _ c.lines.lines c.next.new.lines (g.R.Read.remaining c.lines.reader.inner) (g.R.Read.remaining c.next.new.reader.inner) c.in-Ok-Line.field-0-is c.in-Ok-Line.ensures.took in (
      c.in-Ok-Line.ensures.unfailed ∙ c.lines.invariant.0,
      c.in-Ok-Line.ensures.over,
      λ asked had old now go.
          line_read asked had old now p _ _ _ _ (c.lines.invariant.2 asked had old now go) _ took c.in-Ok-Line.ensures.over tt q
          (read_here p c.number-number.result (number_of c.lines.lines) c.line.result.now (line_of c.next.new.lines) q c.number-number.ensures c.line.ensures (c.in-Ok-On.ensures.ok ∙ ap (journal_step c.read.new.self) c.in-Ok-On.field-0-is)),
    )
