use Rattle.balise_codec.proofs.AllGiven.{all_given}
use Rattle.balise_codec.proofs.laws.all_values_are_given.Goals as goal

pub returns : goal.returns
returns c = all_given
