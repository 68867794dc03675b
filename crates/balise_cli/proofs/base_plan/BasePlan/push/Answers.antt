use Rattle.balise_cli.proofs.BasePlans.{base_kept}
use Rattle.balise_cli.proofs.base_plan.BasePlan.push.Goals as goal

pub invariant_of-self : goal.invariant_of-self
invariant_of-self c = base_kept c.args.group c.self.inside.plan c.push_group.new.self c.push_group.result c.self.invariant c.push_group.ensures.pushes c.push_group.ensures.read
