use Rattle.balise_strike_laws.proofs.SessionsKept.{plans_made}
use Rattle.balise_strike_laws.proofs.plans_made.Goals as goal

pub returns : goal.returns
returns c = plans_made
