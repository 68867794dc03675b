-- A list of items under tags, the places where they were put in. An only item stands by itself.
use Rattle.std.specs.Prelude.{◌≡◌, ◌-◌, ℕ, zero, suc, Bool, false, cond, List, [], ◌∷◌, reverse, slice_set}
use Rattle.std.specs.List.{enumerate_from}
use Rattle.std.specs.Vec.{with_item}
use Rattle.balise_plan.specs.declared.one_or_more.Held.{Held}
use Rattle.balise_plan.specs.declared.one_or_more.Held.TheVariants.{One, Listed}

-- items under their places, in this order or in reverse
abbrev pub tagged : {T : Type 0} → List T → Bool → List (ℕ × T)
tagged xs back = cond back (reverse (enumerate_from 0 xs)) (enumerate_from 0 xs)

-- the items in the order of their tags
abbrev pub by_tag : {T : Type 0} → Held T → List T
by_tag (One x) = x ∷ []
by_tag (Listed v back) = v.items

-- whether they stand in reverse order
abbrev pub is_turned : {T : Type 0} → Held T → Bool
is_turned (One x) = false
is_turned (Listed v back) = back

abbrev pub items_held : {T : Type 0} → Held T → List (ℕ × T)
items_held h = tagged (by_tag h) (is_turned h)

-- each item stands at the place that is its tag
abbrev pub AreInOrder : {T : Type 0} → List (ℕ × T) → Type 0
AreInOrder {T} xs = (ys : List T) × (xs ≡ enumerate_from 0 ys)

-- of n items the tag of that at a place, and the place of that with a tag
abbrev pub turned : ℕ → Bool → ℕ → ℕ
turned n back i = cond back (n - 1 - i) i

-- the tag at a place
abbrev pub tag_at : {T : Type 0} → List (ℕ × T) → ℕ → ℕ
tag_at [] i = 0
tag_at (x ∷ xs) zero = x.0
tag_at (x ∷ xs) (suc i) = tag_at xs i

-- with another item under the tag at a place
abbrev pub item_set : {T : Type 0} → List (ℕ × T) → ℕ → T → List (ℕ × T)
item_set xs i y = slice_set xs i (tag_at xs i, y)

-- with another item of a tag
abbrev pub held_with : {T : Type 0} → Held T → ℕ → T → Held T
held_with (One x) tag y = One y
held_with (Listed v back) tag y = Listed (with_item v tag y) back
