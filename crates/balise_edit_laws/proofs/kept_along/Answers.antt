use Rattle.balise_edit_laws.proofs.Histories.{kept_along}
use Rattle.balise_edit_laws.proofs.kept_along.Goals as goal

pub returns : goal.returns
returns c = kept_along
