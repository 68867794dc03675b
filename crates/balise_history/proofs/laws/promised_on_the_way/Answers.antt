use Rattle.balise_history.proofs.Unmaking.{promised_on_the_way}
use Rattle.balise_history.proofs.laws.promised_on_the_way.Goals as goal

pub returns : goal.returns
returns c = promised_on_the_way
