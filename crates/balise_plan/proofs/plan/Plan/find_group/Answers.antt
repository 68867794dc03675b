use Rattle.std.proofs.Common.{sym}
use Rattle.balise_plan.proofs.plans.Finding.{group-tagged}
use Rattle.balise_plan.proofs.plan.Plan.find_group.Goals as goal

pub returns-in-Some-clause-ok : goal.returns-in-Some-clause-ok
returns-in-Some-clause-ok c = group-tagged c.args.id c.args.self.now.groups c.in-Some.g (sym c.in-Some.ensures)
