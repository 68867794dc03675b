use Rattle.balise_edit_laws.proofs.GoingBack.{going_back}
use Rattle.balise_edit_laws.proofs.goes_back.Goals as goal

pub returns : goal.returns
returns c = λ e plan r. going_back e plan r
