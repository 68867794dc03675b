-- What the items of a list give, gathered from the ascending places of those that give anything.
use Rattle.std.proofs.Common.{◌≡◌, ◌∙◌, ℕ, zero, suc, ◌+◌, ◌-◌, ◌<◌, ◌≤◌, Bool, true, false, List, [], ◌∷◌, ◌++◌, length, drop, slice_get, refl, sym, ap, arith}
use Rattle.std.specs.Prelude.{flat_map}
use Rattle.std.specs.List.{list_any, AllByRecursion}
use Rattle.std.specs.List.Sorted.{IsStrictlySortedBy}
use Rattle.std.specs.Ordering.{nat_cmp, is_eq}
use Rattle.std.specs.declared.cmp.Ordering.TheVariants.{Less}
use Rattle.std.proofs.lemmas.Bool.Decides.{nat_tests}
use Rattle.std.proofs.lemmas.List.{drop_all}
use Rattle.balise_rules.proofs.Tests.{split_on}
use Rattle.balise_review.specs.Reviews.{given}

-- places in rising order, from n on
abbrev pub Ascends : ℕ → List ℕ → Type 0
Ascends n [] = Unit {0}
Ascends n (k ∷ ks) = (n ≤ k) × Ascends (k + 1) ks

-- a test that holds of equal places alone
abbrev pub Tells : (ℕ → ℕ → Bool) → Type 0
Tells same = (i k : ℕ) → same i k ≡ true → i ≡ k

untold : (same : ℕ → ℕ → Bool) → Tells same → (i k : ℕ) → i < k → same i k ≡ false
untold same t i k h = split_on (same i k) (λ e. let w = t i k e in absurd (omega (arith, w, h))) (λ e. e)

told_not : (same : ℕ → ℕ → Bool) → Tells same → (i k : ℕ) → k < i → same i k ≡ false
told_not same t i k h = split_on (same i k) (λ e. let w = t i k e in absurd (omega (arith, w, h))) (λ e. e)

below : (same : ℕ → ℕ → Bool) → Tells same → (i n : ℕ) (ks : List ℕ) → Ascends n ks → i < n → list_any (same i) ks ≡ false
below same t i n [] a h = refl
below same t i n (k ∷ ks) a h = let l = a.0 in let d = untold same t i k (omega (arith, l, h)) in simp d (below same t i (k + 1) ks a.1 (omega (arith, l, h)))

at_drop : {A B : Type 0} (f : A → List B) (xs : List A) (i : ℕ) → flat_map f (drop i xs) ≡ given f (slice_get xs i) ++ flat_map f (drop (i + 1) xs)
at_drop f [] zero = refl
at_drop f [] (suc i) = ap (flat_map f) (sym (drop_all (suc i + 1) [] (omega arith)))
at_drop f (x ∷ xs) zero = refl
at_drop f (x ∷ xs) (suc i) = at_drop f xs i ∙ ap (λ (k : ℕ). given f (slice_get xs i) ++ flat_map f (drop k (x ∷ xs))) (let k : suc (i + 1) ≡ suc i + 1 = omega arith in k)

-- those that give nothing are passed over
passed : {A B : Type 0} (f : A → List B) (xs : List A) (d n : ℕ) → ((i : ℕ) → n ≤ i → i < n + d → given f (slice_get xs i) ≡ []) → flat_map f (drop n xs) ≡ flat_map f (drop (n + d) xs)
passed f xs zero n h = ap (λ (k : ℕ). flat_map f (drop k xs)) (let e : n ≡ n + 0 = omega arith in e)
passed f xs (suc d) n h =
    at_drop f xs n ∙ ap (λ l. l ++ flat_map f (drop (n + 1) xs)) (h n (omega arith) (omega arith))
    ∙ passed f xs d (n + 1) (λ i a b. h i (omega (arith, a)) (omega (arith, b)))
    ∙ ap (λ (k : ℕ). flat_map f (drop k xs)) (let e : n + 1 + d ≡ n + suc d = omega arith in e)

gathered_from : {A B : Type 0} (f : A → List B) (same : ℕ → ℕ → Bool) → Tells same → (xs : List A) (n : ℕ) (ks : List ℕ) → Ascends n ks
    → ((i : ℕ) → n ≤ i → list_any (same i) ks ≡ false → given f (slice_get xs i) ≡ []) → flat_map f (drop n xs) ≡ flat_map (λ k. given f (slice_get xs k)) ks
gathered_from f same t xs n [] a h =
    passed f xs (length xs) n (λ i b e. h i b refl) ∙ ap (flat_map f) (drop_all (n + length xs) xs (omega arith))
gathered_from f same t xs n (k ∷ ks) a h =
    let l = a.0 in
    let e : n + (k - n) ≡ k = omega (arith, l) in
    passed f xs (k - n) n (λ i b c. h i b (below same t i k (k ∷ ks) (omega arith, a.1) (omega (arith, c, e))))
    ∙ ap (λ (m : ℕ). flat_map f (drop m xs)) e
    ∙ at_drop f xs k
    ∙ ap (λ r. given f (slice_get xs k) ++ r) (gathered_from f same t xs (k + 1) ks a.1 (λ i b m. let d = told_not same t i k (omega (arith, b)) in h i (omega (arith, b, l)) (simp d m)))

pub gathered : {A B : Type 0} (f : A → List B) (same : ℕ → ℕ → Bool) → Tells same → (xs : List A) (ks : List ℕ) → Ascends 0 ks
    → ((i : ℕ) → list_any (same i) ks ≡ false → given f (slice_get xs i) ≡ []) → flat_map f xs ≡ flat_map (λ k. given f (slice_get xs k)) ks
gathered f same t xs ks a h = gathered_from f same t xs 0 ks a (λ i b m. h i m)

less : (i k : ℕ) → nat_cmp i k ≡ Less → i < k
less i k e = grind (arith, nat_tests, e)

pub tells : Tells (λ i k. is_eq (nat_cmp i k))
tells i k e = grind (arith, nat_tests, e)

-- the places of a set
pub ascends : (n : ℕ) (ks : List ℕ) → AllByRecursion (λ k. n ≤ k) ks → IsStrictlySortedBy nat_cmp ks → Ascends n ks
unfolding IsStrictlySortedBy
ascends n [] a s = tt
ascends n (k ∷ ks) a s = (a.0, ascends (k + 1) ks (above ks s.0) s.1)
  where
    above : (us : List ℕ) → AllByRecursion (λ u. nat_cmp k u ≡ Less) us → AllByRecursion (λ u. k + 1 ≤ u) us
    above [] h = tt
    above (u ∷ us) h = (let l = less k u h.0 in omega (arith, l), above us h.1)

pub from_zero : (ks : List ℕ) → AllByRecursion (λ k. 0 ≤ k) ks
from_zero [] = tt
from_zero (k ∷ ks) = (omega arith, from_zero ks)
