use Rattle.std.proofs.Common.{rules}
use Rattle.balise_layout.proofs.walker.Walker.new.Goals as goal

pub returns : goal.returns
returns c = search rules
