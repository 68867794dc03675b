use Rattle.balise_edit_laws.proofs.Histories.{taken_back_along}
use Rattle.balise_edit_laws.proofs.taken_back_along.Goals as goal

pub returns : goal.returns
returns c = taken_back_along
