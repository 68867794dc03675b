use Rattle.balise_edit_laws.proofs.PlansRead.{plan_read}
use Rattle.balise_cli.proofs.base_plan.BasePlan.session.Goals as goal

pub new-requires-clause-untagged : goal.new-requires-clause-untagged
new-requires-clause-untagged c = (plan_read c.self.invariant.1.0 c.self.inside.plan.groups c.self.invariant.1.1).1
