use Rattle.std.proofs.Common.{◌≡◌, ◌≤◌, eqb, take}
use Rattle.std.specs.List.{list_all}
use Rattle.balise_edits.specs.Homes.{is_far}
use Rattle.balise_edits.proofs.counting.is_far_block.Given as goal

abbrev pub invariant-loop-i : goal.invariant-loop-i
invariant-loop-i l = (l.near ≤ l.i) × (eqb l.near 0 ≡ list_all (is_far l.group l.limit) (take l.i l.numbers))
