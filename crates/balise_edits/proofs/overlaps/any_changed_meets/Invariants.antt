use Rattle.std.proofs.Common.{◌≡◌, ◌++◌, drop}
use Rattle.std.specs.Prelude.{option_map}
use Rattle.balise_rules.specs.Paths.{any_meets, changes, needs}
use Rattle.balise_edits.specs.Places.{path_of}
use Rattle.balise_edits.specs.Needs.{but}
use Rattle.balise_edits.proofs.overlaps.any_changed_meets.Given as goal

abbrev pub invariant-loop-i : goal.invariant-loop-i
invariant-loop-i l = any_meets (changes l.entry) (but (option_map path_of l.out) (changes l.later) ++ needs l.later) ≡ any_meets (drop l.i (changes l.entry)) (but (option_map path_of l.out) (changes l.later) ++ needs l.later)
