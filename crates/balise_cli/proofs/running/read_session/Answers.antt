use Rattle.std.proofs.Common.{◌≡◌, ◌∙◌, Option, Some, false, ap, subst, sym}
use Rattle.balise_rules.specs.Session.{State}
use Rattle.balise_text.specs.declared.section.Section.TheVariants.{Entries}
use Rattle.balise_cli.specs.Output.{Bad, Commands, Good, InJournal, Phase, if_fits}
use Rattle.balise_cli.specs.Phases.{journal_end, plan_read}
use Rattle.balise_cli.specs.Progress.{FailsAt}
use Rattle.balise_cli.specs.declared.journal_reader.JournalEnd.TheVariants as journal
use Rattle.balise_cli.specs.declared.plan_reader.PlanEnd.{PlanEnd}
use Rattle.balise_cli.proofs.ReadsOn.{read_on, read_so}
use Rattle.balise_cli.proofs.running.read_session.Goals as goal

pub returns-in-Err-clause-reads : goal.returns-in-Err-clause-reads
returns-in-Err-clause-reads g c = subst (λ (p : Phase). FailsAt p c.args.lines.now g.R.Read.remaining c.args.reader.now c.read_plan.new.reader c.in-Err.fault) c.new-plan.ensures c.in-Err.ensures.reads

pub returns-in-Ok-Bad-clause-reads : goal.returns-in-Ok-Bad-clause-reads
returns-in-Ok-Bad-clause-reads g c =
    read_so g.R.Read.remaining _ _ c.new-plan.ensures c.args.lines.now c.read_plan.new.lines c.args.reader.now c.read_plan.new.reader c.in-Ok-Bad.field-0 (λ (e : PlanEnd). plan_read c.read_plan.new.plan (Some e)) c.in-Ok-Bad.ensures.reads
    (journal.Bad c.in-Ok-Bad.number c.in-Ok-Bad.refusal) journal_end (ap (λ (e : PlanEnd). plan_read c.read_plan.new.plan (Some e)) c.in-Ok-Bad.field-0-is)

pub returns-in-Ok-Edits-clause-reads : goal.returns-in-Ok-Edits-clause-reads
returns-in-Ok-Edits-clause-reads g c =
    read_so g.R.Read.remaining _ _ c.new-plan.ensures c.args.lines.now c.read_plan.new.lines c.args.reader.now c.read_plan.new.reader c.in-Ok-Edits.field-0 (λ (e : PlanEnd). plan_read c.read_plan.new.plan (Some e)) c.in-Ok-Edits.ensures.reads
    (journal.Edits c.session.result) journal_end (ap (λ (e : PlanEnd). plan_read c.read_plan.new.plan (Some e)) c.in-Ok-Edits.field-0-is ∙ ap (λ (s : State). Good (Commands s false)) (sym c.session.ensures))

pub returns-in-Err-journal-clause-reads : goal.returns-in-Err-journal-clause-reads
returns-in-Err-journal-clause-reads g c =
    let n = c.in-Ok-Journal.number in
    let is : plan_read c.read_plan.new.plan (Some c.in-Ok-Journal.field-0) ≡ Bad n c.in-Err-journal.refusal =
    ap (λ (e : PlanEnd). plan_read c.read_plan.new.plan (Some e)) c.in-Ok-Journal.field-0-is
    ∙ ap (λ (o : Option State). if_fits n (Entries c.in-Ok-Journal.head.version) o) c.in-Err-journal.ensures.0 ∙ ap (Bad n) (sym c.in-Err-journal.ensures.1) in
    read_so g.R.Read.remaining _ _ c.new-plan.ensures c.args.lines.now c.read_plan.new.lines c.args.reader.now c.read_plan.new.reader c.in-Ok-Journal.field-0 (λ (e : PlanEnd). plan_read c.read_plan.new.plan (Some e)) c.in-Ok-Journal.ensures.reads
    (journal.Bad n c.in-Err-journal.refusal) journal_end is

pub returns-clause-reads : goal.returns-clause-reads
returns-clause-reads g c =
    let opening = c.in-Ok.journal.opening in
    let is : plan_read c.read_plan.new.plan (Some c.in-Ok-Journal.field-0) ≡ Good (InJournal c.in-Ok.journal.section opening.state) =
    ap (λ (e : PlanEnd). plan_read c.read_plan.new.plan (Some e)) c.in-Ok-Journal.field-0-is
    ∙ ap (λ (o : Option State). if_fits c.in-Ok-Journal.number (Entries c.in-Ok-Journal.head.version) o) c.in-Ok.ensures.0 ∙ ap (λ s. Good (InJournal s opening.state)) (sym c.in-Ok.ensures.1) in
    read_on g.R.Read.remaining _ _ c.new-plan.ensures c.args.lines.now c.read_plan.new.lines c.args.reader.now c.read_plan.new.reader c.in-Ok-Journal.field-0 (λ (e : PlanEnd). plan_read c.read_plan.new.plan (Some e)) c.in-Ok-Journal.ensures.reads
    _ c.read_journal.new.lines c.read_journal.new.reader c.read_journal.result journal_end is c.read_journal.ensures.reads
