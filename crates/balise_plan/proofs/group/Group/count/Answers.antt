use Rattle.std.proofs.Common.{rules}
use Rattle.balise_plan.proofs.group.Group.count.Goals as goal

pub returns : goal.returns
returns c = search rules
