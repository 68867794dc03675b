use Rattle.std.proofs.Common.{rules}
use Rattle.balise_plan.proofs.plan.Plan.place_of.Goals as goal

pub returns : goal.returns
returns c = search rules
