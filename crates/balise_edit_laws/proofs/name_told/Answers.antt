use Rattle.balise_edit_laws.proofs.Naming.{no_name_from, no_name_to}
use Rattle.balise_edit_laws.proofs.name_told.Goals as goal

pub returns : goal.returns
returns c = λ i plan sound. (no_name_from i plan, no_name_to i plan sound)
