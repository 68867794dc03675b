use Rattle.balise_cli.proofs.OneStanding.{one_standing}
use Rattle.balise_cli.proofs.laws.one_standing.Goals as goal

pub returns : goal.returns
returns c = one_standing
