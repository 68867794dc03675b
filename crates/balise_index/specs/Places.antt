-- Places of link elements: their order, and sets of them.
use Rattle.std.specs.Prelude.{◌≡◌, Bool, false, List, [], ◌∷◌}
use Rattle.std.specs.declared.cmp.Ordering.{Ordering}
use Rattle.std.specs.Ordering.{is_eq}
use Rattle.std.specs.List.{list_any}
use Rattle.std.specs.BTreeSet as set
use Rattle.balise_index.specs.declared.link_place.LinkPlace.{LinkPlace}
use Rattle.balise_index.specs.contracts.link_place.LinkPlaceOrd.TheImpl as place
use Rattle.balise_index.specs.contracts.link_place.LinkPlacePartialEq.TheImpl as equal

abbrev pub compare_place : LinkPlace → LinkPlace → Ordering
compare_place = place.cmp-value.it

abbrev pub is_place : LinkPlace → LinkPlace → Bool
is_place a b = is_eq (compare_place a b)

-- whether two places are one
abbrev pub same_place : LinkPlace → LinkPlace → Bool
same_place = equal.eq-value.it

-- a set of places
abbrev pub Links : Type 0
Links = set.BTreeSet LinkPlace

-- whether a place is one of these
abbrev pub among : LinkPlace → List LinkPlace → Bool
among w ws = list_any (λ u. is_place w u) ws

-- each place is there once
abbrev pub Once : List LinkPlace → Type 0
Once [] = Unit {0}
Once (w ∷ ws) = (among w ws ≡ false) × Once ws
