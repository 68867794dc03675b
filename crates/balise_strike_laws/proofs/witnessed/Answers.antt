use Rattle.balise_strike_laws.proofs.Example.{example}
use Rattle.balise_strike_laws.proofs.witnessed.Goals as goal

pub returns : goal.returns
returns c = example
