-- The places of a set stand there once each.
use Rattle.std.proofs.Common.{◌≡◌, false, List, [], ◌∷◌, ap, refl}
use Rattle.std.specs.Ordering.{is_eq}
use Rattle.std.specs.declared.cmp.Ordering.TheVariants.{Less}
use Rattle.std.specs.List.{AllByRecursion}
use Rattle.std.specs.List.Sorted.{IsStrictlySortedBy}
use Rattle.balise_index.specs.declared.link_place.LinkPlace.{LinkPlace}
use Rattle.balise_index.specs.Places.{among, compare_place, is_place, Once}

pub below : (w : LinkPlace) (ws : List LinkPlace) → AllByRecursion (λ u. compare_place w u ≡ Less) ws → among w ws ≡ false
below w [] h = refl
below w (u ∷ us) h = let e : is_place w u ≡ false = ap is_eq h.0 in simp e (below w us h.1)

pub once-sorted : (ws : List LinkPlace) → IsStrictlySortedBy compare_place ws → Once ws
unfolding IsStrictlySortedBy
once-sorted [] s = tt
once-sorted (w ∷ ws) s = (below w ws s.0, once-sorted ws s.1)
