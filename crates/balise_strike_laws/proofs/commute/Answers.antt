use Rattle.balise_strike_laws.proofs.Commuting.{commuting}
use Rattle.balise_strike_laws.proofs.commute.Goals as goal

pub returns : goal.returns
returns c = commuting
