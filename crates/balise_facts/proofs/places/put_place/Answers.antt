-- A place and the end of its line, after a name and a space.
use Rattle.std.proofs.Common.{refl}
use Rattle.std.proofs.lemmas.List.{append-nil}
use Rattle.balise_facts.proofs.Steps.{step_begun, step_behind}
use Rattle.balise_facts.proofs.places.put_place.Goals as goal

pub returns-in-Err : goal.returns-in-Err
returns-in-Err g c = simp append-nil (step_begun _ c.args.name.now _ _ _ _ _ refl c.in-Err.ensures)

pub returns : goal.returns
returns g c = simp append-nil (step_behind _ c.put_path.result c.args.name.now _ _ _ _ _ _ refl c.in_default.ensures c.put_path.ensures)
