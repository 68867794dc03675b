use Rattle.std.proofs.Common.{rules}
use Rattle.balise_rules.proofs.variable.Var.from_name.Goals as goal

pub returns : goal.returns
returns c = search rules
