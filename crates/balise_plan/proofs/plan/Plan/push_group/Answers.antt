use Rattle.balise_plan.proofs.plans.Pushed.{pushes-read}
use Rattle.balise_plan.proofs.plan.Plan.push_group.Goals as goal

pub returns-in-Ok-clause-read : goal.returns-in-Ok-clause-read
returns-in-Ok-clause-read c = pushes-read c.args.self.now c.push_read.new.self c.in-Ok.group c.push_read.result c.in-Ok.ensures.read c.push_read.ensures
