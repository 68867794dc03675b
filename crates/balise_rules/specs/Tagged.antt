-- Lists of items under keys: fields, packets, telegrams and groups. `same` is the test whether two keys are one.
use Rattle.std.specs.Prelude.{◌≡◌, Bool, true, false, cond, List, [], ◌∷◌, ◌++◌, Option, Some, None, is_some}
use Rattle.std.specs.Map.{lookup}

-- what stands under a key
abbrev pub find : {K A : Type 0} → (K → K → Bool) → K → List (K × A) → Option A
find same k xs = lookup (same k) xs

abbrev pub has : {K A : Type 0} → (K → K → Bool) → K → List (K × A) → Bool
has same k xs = is_some (find same k xs)

-- each key once
abbrev pub Distinct : {K A : Type 0} → (K → K → Bool) → List (K × A) → Type 0
Distinct same [] = Unit {0}
Distinct same (y ∷ ys) = (find same y.0 ys ≡ None) × Distinct same ys

-- the first key, or the end
abbrev pub first : {K A : Type 0} → List (K × A) → Option K
first [] = None
first (y ∷ ys) = Some y.0

-- what comes directly after a key
abbrev pub behind : {K A : Type 0} → (K → K → Bool) → K → List (K × A) → Option K
behind same k [] = None
behind same k (y ∷ ys) = cond (same k y.0) (first ys) (behind same k ys)

-- what comes directly after an anchor: a key, or the start
abbrev pub next : {K A : Type 0} → (K → K → Bool) → Option K → List (K × A) → Option K
next same None xs = first xs
next same (Some k) xs = behind same k xs

-- whether two anchors, or two neighbours, are one
abbrev pub same_spot : {K : Type 0} → (K → K → Bool) → Option K → Option K → Bool
same_spot same None None = true
same_spot same None (Some b) = false
same_spot same (Some a) None = false
same_spot same (Some a) (Some b) = same a b

-- whether an anchor, or a neighbour, stands
abbrev pub stands : {K A : Type 0} → (K → K → Bool) → Option K → List (K × A) → Bool
stands same None xs = true
stands same (Some k) xs = has same k xs

abbrev pub put_behind : {K A : Type 0} → (K → K → Bool) → K → K × A → List (K × A) → List (K × A)
put_behind same k z [] = []
put_behind same k z (y ∷ ys) = cond (same k y.0) (y ∷ (z ∷ ys)) (y ∷ put_behind same k z ys)

-- with z directly after the anchor, or first
abbrev pub put : {K A : Type 0} → (K → K → Bool) → Option K → K × A → List (K × A) → List (K × A)
put same None z xs = z ∷ xs
put same (Some k) z xs = put_behind same k z xs

abbrev pub put_in_front : {K A : Type 0} → (K → K → Bool) → K → K × A → List (K × A) → List (K × A)
put_in_front same k z [] = []
put_in_front same k z (y ∷ ys) = cond (same k y.0) (z ∷ (y ∷ ys)) (y ∷ put_in_front same k z ys)

-- with z directly before the neighbour, or last
abbrev pub put_before : {K A : Type 0} → (K → K → Bool) → Option K → K × A → List (K × A) → List (K × A)
put_before same None z xs = xs ++ (z ∷ [])
put_before same (Some k) z xs = put_in_front same k z xs

-- without the item of a key
abbrev pub without : {K A : Type 0} → (K → K → Bool) → K → List (K × A) → List (K × A)
without same k [] = []
without same k (y ∷ ys) = cond (same k y.0) (without same k ys) (y ∷ without same k ys)

abbrev pub put_found : {K A : Type 0} → (K → K → Bool) → Option A → K → Option K → List (K × A) → List (K × A)
put_found same None k a xs = xs
put_found same (Some x) k a xs = put same a (k, x) xs

-- with the item of a key taken out and put directly after the anchor
abbrev pub move : {K A : Type 0} → (K → K → Bool) → K → Option K → List (K × A) → List (K × A)
move same k a xs = put_found same (find same k xs) k a (without same k xs)

-- each item changed as its key and it say, the keys kept
abbrev pub each : {K A : Type 0} → (K → A → A) → List (K × A) → List (K × A)
each f [] = []
each f (y ∷ ys) = (y.0, f y.0 y.1) ∷ each f ys

-- the four changes of a list
pub data Change (K A : Type 0) : Type 0 where
  Each : (K → A → A) → Change K A
  Put : Option K → K × A → Change K A
  Take : K → Change K A
  Move : K → Option K → Change K A

abbrev pub changed : {K A : Type 0} → (K → K → Bool) → Change K A → List (K × A) → List (K × A)
changed same (Each f) xs = each f xs
changed same (Put a z) xs = put same a z xs
changed same (Take k) xs = without same k xs
changed same (Move k a) xs = move same k a xs

-- what a change puts in isn't there yet
abbrev pub IsNew : {K A : Type 0} → (K → K → Bool) → Change K A → List (K × A) → Type 0
IsNew same (Each f) xs = Unit {0}
IsNew same (Put a z) xs = find same z.0 xs ≡ None
IsNew same (Take k) xs = Unit {0}
IsNew same (Move k a) xs = Unit {0}
