use Rattle.std.proofs.Common.{◌≡◌, map, take}
use Rattle.balise_rules.specs.Paths.{changes}
use Rattle.balise_edits.specs.Places.{path_of}
use Rattle.balise_edits.proofs.listing.changed_places.Given as goal

abbrev pub invariant-loop-i : goal.invariant-loop-i
invariant-loop-i l = map path_of l.places.items ≡ take l.i (changes l.entry)
