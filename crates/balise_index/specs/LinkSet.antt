-- A set of places: none, one, two, three, in a list or in a tree.
use Rattle.std.specs.Prelude.{◌≡◌, ℕ, Bool, false, cond, List, [], ◌∷◌, Option, Some, None}
use Rattle.std.specs.List.{position_or_len}
use Rattle.std.specs.Ordering.{is_le}
use Rattle.balise_index.specs.declared.link_place.LinkPlace.{LinkPlace}
use Rattle.balise_index.specs.declared.links.Held.{Held}
use Rattle.balise_index.specs.declared.links.Held.TheVariants.{Empty, One, Two, Three, Few, Many}
use Rattle.balise_index.specs.declared.links.iter.Left.{Left}
use Rattle.balise_index.specs.declared.links.iter.Left.TheVariants as left
use Rattle.balise_index.specs.NarrowPlace.{wide_place, wide_places}
use Rattle.balise_index.specs.SmallPlace.{wide_small}
use Rattle.balise_index.specs.ThreePlaces.{first_of, second_of, third_of}
use Rattle.balise_index.specs.Places.{Links, among, compare_place, is_place}

abbrev pub places_held : Held → Links
places_held Empty = record { keys = [] }
places_held (One n) = record { keys = wide_place n ∷ [] }
places_held (Two a b) = record { keys = wide_small a ∷ wide_small b ∷ [] }
places_held (Three t) = record { keys = wide_small (first_of t) ∷ wide_small (second_of t) ∷ wide_small (third_of t) ∷ [] }
places_held (Few list) = record { keys = wide_places list.value.items }
places_held (Many tree) = tree.value

-- the places that are left
abbrev pub places_left : Left → List LinkPlace
places_left left.Nothing = []
places_left (left.One n) = wide_place n ∷ []
places_left (left.Two a b) = wide_small a ∷ wide_small b ∷ []
places_left (left.Three t) = wide_small (first_of t) ∷ wide_small (second_of t) ∷ wide_small (third_of t) ∷ []
places_left (left.Few list) = wide_places list.now
places_left (left.Many rest) = rest

-- how many places come before w
abbrev pub rank : LinkPlace → List LinkPlace → ℕ
rank w vs = position_or_len (λ v. is_le (compare_place w v)) vs

abbrev pub stands : LinkPlace → Option LinkPlace → Bool
stands w None = false
stands w (Some v) = is_place w v

-- w is there exactly if b is true, and each other place exactly if it was
abbrev pub PutsIn : List LinkPlace → List LinkPlace → LinkPlace → Bool → Type 0
PutsIn old new w b = (v : LinkPlace) → among v new ≡ cond (is_place w v) b (among v old)

-- the same of sets
abbrev pub Puts : Links → Links → LinkPlace → Bool → Type 0
Puts old new w b = PutsIn old.keys new.keys w b
