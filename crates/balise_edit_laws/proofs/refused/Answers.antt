use Rattle.balise_edit_laws.proofs.Refusing.{refused_exactly}
use Rattle.balise_edit_laws.proofs.refused.Goals as goal

pub returns : goal.returns
returns c = refused_exactly
