-- A list of narrow places, seen as the places that they stand for.
use Rattle.std.proofs.Common.{◌≡◌, ◌∙◌, ◌+◌, ℕ, suc, cond, List, Some, None, length, position, nat_lt, refl, sym, ap, arith}
use Rattle.std.proofs.lemmas.List.{length-map}
use Rattle.std.specs.List.{position_or_len}
use Rattle.std.specs.Ordering.{is_le}
use Rattle.std.proofs.lemmas.List.Recursion.{is_position_or_len}
use Rattle.balise_index.specs.declared.links.narrow.NarrowPlace.{NarrowPlace}
use Rattle.balise_index.specs.declared.link_place.LinkPlace.{LinkPlace}
use Rattle.balise_index.specs.LinkSet.{rank}
use Rattle.balise_index.specs.NarrowPlace.{wide_place, wide_places}
use Rattle.balise_index.specs.Places.{compare_place}
use Rattle.balise_index.proofs.places.Ranked.{spot, spot-rank}

-- how many narrow places come before w
pub wide-rank : (w : LinkPlace) (ns : List NarrowPlace) → rank w (wide_places ns) ≡ position_or_len (λ n. is_le (compare_place w (wide_place n))) ns
wide-rank w ns =
    spot-rank w (wide_places ns)
    ∙ is_position_or_len (λ ms. spot w (wide_places ms)) (λ n. is_le (compare_place w (wide_place n))) refl
    (λ x xs. ap (λ (n : ℕ). cond (is_le (compare_place w (wide_place x))) 0 n) (let n : suc (spot w (wide_places xs)) ≡ 1 + spot w (wide_places xs) = omega arith in n))
    ns

-- a search among narrow places finds what it finds among the places
pub wide-position : (w : LinkPlace) (ns : List NarrowPlace) → position (λ n. is_le (compare_place w (wide_place n))) ns ≡ position (λ v. is_le (compare_place w v)) (wide_places ns)
wide-position w ns =
    ap (λ (r : ℕ). cond (nat_lt r (length ns)) (Some r) None) (sym (wide-rank w ns))
    ∙ ap (λ (l : ℕ). cond (nat_lt (rank w (wide_places ns)) l) (Some (rank w (wide_places ns))) None) (sym (length-map ns wide_place))
