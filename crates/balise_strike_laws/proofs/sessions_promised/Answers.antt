use Rattle.balise_strike_laws.proofs.Promises.{sessions_promised}
use Rattle.balise_strike_laws.proofs.sessions_promised.Goals as goal

pub returns : goal.returns
returns c = sessions_promised
