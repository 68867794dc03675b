use Rattle.balise_edit_laws.proofs.DoneExactly.{done_exactly}
use Rattle.balise_edit_laws.proofs.done_exactly.Goals as goal

pub returns : goal.returns
returns c = done_exactly
