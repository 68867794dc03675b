use Rattle.balise_strike_laws.proofs.Promises.{headline}
use Rattle.balise_strike_laws.proofs.headline.Goals as goal

pub returns : goal.returns
returns c = headline
