use Rattle.std.proofs.Common.{◌≡◌, ◌<◌, ℕ, false, slice_get}
use Rattle.balise_index.specs.InOrder.{is_at}
use Rattle.balise_index.proofs.tag_code.rare_place.Given as goal

abbrev pub invariant-loop-i : goal.invariant-loop-i
invariant-loop-i l = (k : ℕ) → k < l.i → is_at l.tag (slice_get l.rare.items k) ≡ false
