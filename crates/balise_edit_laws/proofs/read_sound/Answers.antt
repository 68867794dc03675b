use Rattle.balise_edit_laws.proofs.PlansRead.{plan_read}
use Rattle.balise_edit_laws.proofs.read_sound.Goals as goal

pub returns : goal.returns
returns c = plan_read
