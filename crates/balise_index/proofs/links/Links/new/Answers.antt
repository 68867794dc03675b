use Rattle.std.proofs.Common.{refl}
use Rattle.balise_index.proofs.places.Ranked.{ordered-none}
use Rattle.balise_index.proofs.links.Links.new.Goals as goal

pub invariant_of-result : goal.invariant_of-result
invariant_of-result c = ordered-none _ refl
