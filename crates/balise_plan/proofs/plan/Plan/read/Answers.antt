use Rattle.balise_plan.proofs.plans.Pushed.{pushes-ill}
use Rattle.balise_plan.proofs.plan.Plan.read.Goals as goal

pub returns-in-Err-clause-fault : goal.returns-in-Err-clause-fault
returns-in-Err-clause-fault c = λ other. pushes-ill (λ g. g.items) c.args.groups.items c.loop-telegrams.telegrams-iterator.rest.items c.next.new.self.rest.items c.in-Some.telegrams c.loop-telegrams.plan c.push.new.self c.loop-telegrams.invariant c.in-Some.ensures.steps.0 c.in-Err.fault c.in-Err.ensures other
