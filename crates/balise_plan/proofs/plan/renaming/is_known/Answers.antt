use Rattle.std.proofs.Common.{rules}
use Rattle.balise_plan.proofs.plan.renaming.is_known.Goals as goal

pub returns : goal.returns
returns c = search rules
