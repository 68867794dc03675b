use Rattle.std.proofs.Common.{rules}
use Rattle.balise_plan.proofs.plan.Plan.count.Goals as goal

pub returns-clause-count : goal.returns-clause-count
returns-clause-count c = search rules
