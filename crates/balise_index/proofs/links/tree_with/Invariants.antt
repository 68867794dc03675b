use Rattle.std.proofs.Common.{◌≡◌, take}
use Rattle.balise_index.specs.declared.link_place.LinkPlace.{LinkPlace}
use Rattle.balise_index.specs.NarrowPlace.{wide_places}
use Rattle.balise_index.specs.Places.{among}
use Rattle.balise_index.proofs.links.tree_with.Given as goal

abbrev pub invariant-loop-i : goal.invariant-loop-i
invariant-loop-i l = (v : LinkPlace) → among v l.tree.keys ≡ among v (take l.i (wide_places l.list.items))
