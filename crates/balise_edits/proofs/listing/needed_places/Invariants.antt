use Rattle.std.proofs.Common.{◌≡◌, ◌++◌, map, take}
use Rattle.balise_rules.specs.Paths.{ids}
use Rattle.balise_edits.specs.Places.{path_of}
use Rattle.balise_edits.specs.Needs.{listed, needed_place}
use Rattle.balise_edits.proofs.listing.needed_places.Given as goal

abbrev pub invariant-loop-name : goal.invariant-loop-name
invariant-loop-name l = map path_of l.places.items ≡ listed (needed_place l.entry) ++ ids (take l.name-index l.name-items)
