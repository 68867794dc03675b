use Rattle.std.proofs.Common.{ap}
use Rattle.balise_rules.specs.Doing.{done}
use Rattle.balise_edit_laws.proofs.TakingBack.{taking_back}
use Rattle.balise_edit_laws.proofs.taken_back.Goals as goal

pub returns : goal.returns
returns c = λ e plan r. let b = taking_back e plan r.sound r.unused r.accepted in (b, ap (done e) b)
