use Rattle.std.proofs.Common.{rules}
use Rattle.balise_edits.proofs.laws.commute.Goals as goal

pub returns : goal.returns
returns c = search rules
