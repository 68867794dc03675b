use Rattle.std.proofs.Common.{rules}
use Rattle.balise_plan.proofs.plan.Plan.at.Goals as goal

pub returns : goal.returns
returns c = search rules
