use Rattle.std.proofs.Common.{rules}
use Rattle.balise_plan.proofs.plan.Plan.empty.Goals as goal

pub returns-clause-changes : goal.returns-clause-changes
returns-clause-changes c = search rules
