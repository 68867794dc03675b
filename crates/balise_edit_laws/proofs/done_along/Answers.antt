use Rattle.balise_edit_laws.proofs.DoneExactly.{done_along}
use Rattle.balise_edit_laws.proofs.done_along.Goals as goal

pub returns : goal.returns
returns c = done_along
