use Rattle.std.proofs.Common.{rules}
use Rattle.balise_plan.proofs.packets.{shift-does, shift-harmless}
use Rattle.balise_plan.proofs.plan.Plan.shift_packet.Goals as goal

pub in_telegram-requires-clause-harmless : goal.in_telegram-requires-clause-harmless
in_telegram-requires-clause-harmless c = shift-harmless c.args.g c.args.t c.args.p c.args.spot (λ y z r k. search rules) _

pub returns-clause-shifts : goal.returns-clause-shifts
returns-clause-shifts c = shift-does c.args.g c.args.t c.args.p c.args.spot (λ y z r k. search rules) c.in_telegram.ensures.sound c.in_telegram.ensures.does
