use Rattle.balise_edit_laws.proofs.Naming.{no_group_from, no_group_to}
use Rattle.balise_edit_laws.proofs.group_told.Goals as goal

pub returns : goal.returns
returns c = λ i plan sound. (no_group_from i plan, no_group_to i plan sound.tags)
