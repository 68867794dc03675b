use Rattle.balise_strike_laws.proofs.StandsBehind.{commuting_behind}
use Rattle.balise_strike_laws.proofs.commute_behind.Goals as goal

pub returns : goal.returns
returns c = commuting_behind
