use Rattle.balise_strike_laws.proofs.Symmetry.{symmetric}
use Rattle.balise_strike_laws.proofs.apart_from_both_sides.Goals as goal

pub returns : goal.returns
returns c = symmetric
