use Rattle.balise_plan.proofs.plans.Pushed.{PushedTo}
use Rattle.balise_plan.proofs.plan.Plan.read.Given as goal

abbrev pub invariant-loop-telegrams : goal.invariant-loop-telegrams
invariant-loop-telegrams l = PushedTo (λ g. g.items) l.fn.groups.items l.telegrams-iterator.rest.items l.plan
