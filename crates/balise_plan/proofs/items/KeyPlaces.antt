-- Places of keys in a tagged list, as a map answers them: what is taken out there, and what stands after it.
use Rattle.std.proofs.Common.{◌≡◌, ℕ, zero, suc, ◌+◌, Bool, List, [], ◌∷◌, Option, Some, None, position, insert, option_map, slice_get, refl, sym, ◌∙◌, ap, arith, ◌⊎◌, inl, inr}
use Rattle.std.specs.Map.{keys_of, remove_entry}
use Rattle.std.specs.Option.{IfSome, is_some}
use Rattle.balise_rules.specs.Tagged.{find, first, behind, without, put_behind, put_in_front, Distinct}
use Rattle.balise_rules.proofs.Tests.{IsTest, split_on}
use Rattle.balise_rules.proofs.Lists.{without-absent}
use Rattle.balise_rules.specs.declared.tag.Tag.{Tag}
use Rattle.balise_rules.specs.Tags.{same_tag}
use Rattle.balise_index.specs.declared.spot.Spot.{Spot}
use Rattle.balise_index.specs.declared.spot.Spot.TheVariants.{After, Before}
use Rattle.balise_index.specs.AtSpot.{put_in, spot_stands}
use Rattle.balise_index.proofs.order.Entries.{some_index}
use Rattle.balise_plan.proofs.items.Places.{At, at-position}

same-place : {K A : Type 0} (test : K → Bool) (xs : List (K × A)) → position test (keys_of xs) ≡ position (λ p. test p.0) xs
same-place test [] = refl
same-place test (x ∷ xs) = let h = same-place test xs in grind arith

-- the place of a key
pub at-key : {K A : Type 0} (test : K → Bool) (xs : List (K × A)) (i : ℕ) → position test (keys_of xs) ≡ Some i → At test xs i
at-key test xs i e = at-position test xs i (sym (same-place test xs) ∙ e)

-- without the item at its place, the next neighbour stands there
pub behind-place : {K A : Type 0} (same : K → K → Bool) (k : K) (xs : List (K × A)) (i : ℕ) → At (same k) xs i → option_map (λ (p : K × A). p.0) (slice_get (remove_entry (same k) xs) i) ≡ behind same k xs
behind-place same k [] i a = absurd a
behind-place same k (y ∷ ys) zero a = simp a (start ys)
  where
    start : {K A : Type 0} (zs : List (K × A)) → option_map (λ (p : K × A). p.0) (slice_get zs 0) ≡ first zs
    start [] = refl
    start (z ∷ zs) = refl
behind-place same k (y ∷ ys) (suc i) a = let n = a.0 in simp n (behind-place same k ys i a.1)

-- the first item of a key is the only one
pub removed-without : {K A : Type 0} {same : K → K → Bool} → IsTest same → (k : K) (xs : List (K × A)) → Distinct same xs → remove_entry (same k) xs ≡ without same k xs
removed-without t k [] u = refl
removed-without {same = same} t k (y ∷ ys) u =
    split_on (same k y.0)
    (λ e. simp e (sym (without-absent same k ys (ap (λ r. find same r ys) (t.one k y.0 e) ∙ u.0))))
    (λ e. simp e (ap (λ l. y ∷ l) (removed-without t k ys u.1)))

-- ---- one item more

-- directly after the key at a place
pub after-place : {K A : Type 0} (same : K → K → Bool) (k : K) (z : K × A) (xs : List (K × A)) (i : ℕ) → At (same k) xs i → insert xs (suc i) z ≡ put_behind same k z xs
after-place same k z [] i a = absurd a
after-place same k z (y ∷ ys) zero a = simp a
after-place same k z (y ∷ ys) (suc i) a = let n = a.0 in simp n (ap (λ l. y ∷ l) (after-place same k z ys i a.1))

-- directly before it
pub before-place : {K A : Type 0} (same : K → K → Bool) (k : K) (z : K × A) (xs : List (K × A)) (i : ℕ) → At (same k) xs i → insert xs i z ≡ put_in_front same k z xs
before-place same k z [] i a = absurd a
before-place same k z (y ∷ ys) zero a = simp a
before-place same k z (y ∷ ys) (suc i) a = let n = a.0 in simp n (ap (λ l. y ∷ l) (before-place same k z ys i a.1))

-- ---- the place that a spot names

pub found-after : {A : Type 0} (tag : Tag) (xs : List (Tag × A)) (s : Spot Tag) (i : ℕ) → s ≡ After (Some tag) → position (same_tag tag) (keys_of xs) ≡ Some i → (z : Tag × A) → insert xs (i + 1) z ≡ put_in s z xs
found-after tag xs s i e p z =
    let k : i + 1 ≡ suc i = omega arith in
    ap (λ m. insert xs m z) k ∙ after-place same_tag tag z xs i (at-key (same_tag tag) xs i p) ∙ sym (ap (λ r. put_in r z xs) e)

pub found-before : {A : Type 0} (tag : Tag) (xs : List (Tag × A)) (s : Spot Tag) (o : Option ℕ) → s ≡ Before (Some tag) → o ≡ position (same_tag tag) (keys_of xs) → IfSome o (λ i. (z : Tag × A) → insert xs i z ≡ put_in s z xs)
found-before tag xs s None e p = tt
found-before tag xs s (Some i) e p = λ z. before-place same_tag tag z xs i (at-key (same_tag tag) xs i (sym p)) ∙ sym (ap (λ r. put_in r z xs) e)

pub place-stands : {A : Type 0} (tag : Tag) (xs : List (Tag × A)) (s : Spot Tag) (o : Option ℕ) → (s ≡ After (Some tag)) ⊎ (s ≡ Before (Some tag)) → o ≡ position (same_tag tag) (keys_of xs) → is_some o ≡ spot_stands s xs
place-stands tag xs s o (inl e) p = ap is_some p ∙ some_index (same_tag tag) xs ∙ sym (ap (λ r. spot_stands r xs) e)
place-stands tag xs s o (inr e) p = ap is_some p ∙ some_index (same_tag tag) xs ∙ sym (ap (λ r. spot_stands r xs) e)
