use Rattle.balise_strike_laws.proofs.SessionStrikes.{undoing_here}
use Rattle.balise_strike_laws.proofs.undo_in_session.Goals as goal

pub returns : goal.returns
returns c = undoing_here
