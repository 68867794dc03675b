use Rattle.balise_strike_laws.proofs.SessionStrikes.{striking_here}
use Rattle.balise_strike_laws.proofs.strike_in_session.Goals as goal

pub returns : goal.returns
returns c = striking_here
