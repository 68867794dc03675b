use Rattle.std.proofs.Common.{◌≡◌, drop}
use Rattle.std.specs.Prelude.{option_map}
use Rattle.balise_rules.specs.Paths.{any_meets, changes, ids, needs}
use Rattle.balise_edits.specs.Places.{path_of}
use Rattle.balise_edits.specs.Needs.{but}
use Rattle.balise_edits.proofs.overlaps.any_needed_meets.Given as goal

abbrev pub invariant-loop-name : goal.invariant-loop-name
invariant-loop-name l = any_meets (needs l.entry) (but (option_map path_of l.out) (changes l.later)) ≡ any_meets (ids (drop l.name-index l.name-items)) (but (option_map path_of l.out) (changes l.later))
