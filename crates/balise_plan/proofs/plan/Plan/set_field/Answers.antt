use Rattle.std.proofs.Common.{rules, ◌∙◌, sym}
use Rattle.balise_rules.specs.declared.tagged_edit.TaggedEdit.TheVariants.{SetVar}
use Rattle.balise_plan.specs.Held.{DoesAlways}
use Rattle.balise_plan.proofs.fields.Other.{field-does, field-harmless}
use Rattle.balise_plan.proofs.plans.Outcomes.{or-memory}
use Rattle.balise_plan.proofs.plan.Plan.set_field.Goals as goal
use Rattle.balise_plan.proofs.plan.Plan.set_field.Goals.{After-in_telegram}

pub returns-then-eq-clause-does : goal.returns-then-eq-clause-does
returns-then-eq-clause-does c = search rules

pub returns-then-eq-clause-old : goal.returns-then-eq-clause-old
returns-then-eq-clause-old c = search rules

pub in_telegram-requires-clause-harmless : goal.in_telegram-requires-clause-harmless
in_telegram-requires-clause-harmless c = field-harmless c.args.g c.args.t c.args.p c.args.var c.args.k c.args.value (λ y z r k. search rules) (sym c.eq.ensures ∙ c.if-eq.false) _

always : (c : After-in_telegram) → DoesAlways (SetVar c.args.g c.args.t c.args.p c.args.var c.args.k c.args.value) c.args.self.now c.in_telegram.result c.in_telegram.new.self
always c = field-does c.args.g c.args.t c.args.p c.args.var c.args.k c.args.value (λ y z r k. search rules) c.in_telegram.ensures.sound c.in_telegram.ensures.does

pub returns-clause-does : goal.returns-clause-does
returns-clause-does c = or-memory (SetVar c.args.g c.args.t c.args.p c.args.var c.args.k c.args.value) c.args.self.now c.in_telegram.new.self c.in_telegram.result (always (goal.at.returns-clause-does c).After-in_telegram)

pub returns-clause-always : goal.returns-clause-always
returns-clause-always c = λ _. always (goal.at.returns-clause-always c).After-in_telegram
