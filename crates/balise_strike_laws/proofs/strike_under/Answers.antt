use Rattle.balise_strike_laws.proofs.Strikes.{striking_under}
use Rattle.balise_strike_laws.proofs.strike_under.Goals as goal

pub returns : goal.returns
returns c = striking_under
