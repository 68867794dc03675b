use Rattle.std.proofs.Common.{rules}
use Rattle.balise_plan.proofs.fields.Other.{head-does, head-harmless}
use Rattle.balise_plan.proofs.plan.Plan.set_head.Goals as goal

pub in_telegram-requires-clause-harmless : goal.in_telegram-requires-clause-harmless
in_telegram-requires-clause-harmless c = head-harmless c.args.g c.args.t c.args.var c.args.value (λ y z r k. search rules) _

pub returns-clause-does : goal.returns-clause-does
returns-clause-does c = head-does c.args.g c.args.t c.args.var c.args.value (λ y z r k. search rules) c.in_telegram.ensures.sound c.in_telegram.ensures.does
