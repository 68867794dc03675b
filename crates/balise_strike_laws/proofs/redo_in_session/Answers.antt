use Rattle.balise_strike_laws.proofs.TakenOut.{redoing_here}
use Rattle.balise_strike_laws.proofs.redo_in_session.Goals as goal

pub returns : goal.returns
returns c = redoing_here
