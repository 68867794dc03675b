use Rattle.balise_edit_laws.proofs.SoundKept.{sound_kept}
use Rattle.balise_edit_laws.proofs.UnusedKept.{unused_kept}
use Rattle.balise_edit_laws.proofs.kept.Goals as goal

pub returns : goal.returns
returns c = λ e plan r. (sound_kept e plan r, unused_kept e plan r)
