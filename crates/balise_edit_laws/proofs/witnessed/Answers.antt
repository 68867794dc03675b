use Rattle.balise_edit_laws.proofs.Witnesses.{witness}
use Rattle.balise_edit_laws.proofs.witnessed.Goals as goal

pub returns : goal.returns
returns c = witness
