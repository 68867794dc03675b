use Rattle.std.proofs.Common.{◌≡◌, drop}
use Rattle.std.specs.Prelude.{option_map}
use Rattle.balise_rules.specs.Paths.{changes, meets_any}
use Rattle.balise_edits.specs.Places.{path_of}
use Rattle.balise_edits.specs.Needs.{but}
use Rattle.balise_edits.proofs.overlaps.meets_changed.Given as goal

abbrev pub invariant-loop-i : goal.invariant-loop-i
invariant-loop-i l = meets_any (path_of l.place) (but (option_map path_of l.out) (changes l.entry)) ≡ meets_any (path_of l.place) (but (option_map path_of l.out) (drop l.i (changes l.entry)))
