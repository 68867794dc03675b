-- Tagged lists taken back: what was put in is taken out again, and what was taken out is put before its old neighbour.
use Rattle.std.proofs.Common.{◌≡◌, Bool, false, List, [], ◌∷◌, Option, Some, None, refl, sym, ap, ◌∙◌}
use Rattle.balise_rules.specs.Tagged.{find, first, behind, same_spot, put, put_before, without, Distinct}
use Rattle.balise_rules.proofs.Tests.{IsTest, split_on, split_keys}
use Rattle.balise_rules.proofs.Lists.{without-absent, behind_found}
use Rattle.balise_rules.proofs.Cases.{unsome}

pub without-put_same : {K A : Type 0} → {same : K → K → Bool} → IsTest same → (a : Option K) → (z : K × A) → (xs : List (K × A)) → find same z.0 xs ≡ None → without same z.0 (put same a z xs) ≡ xs
without-put_same {same = same} t None z xs n = let s = t.itself z.0 in simp s (without-absent same z.0 xs n)
without-put_same t (Some a) z [] n = refl
without-put_same {same = same} t (Some a) z (y ∷ ys) n =
    let s = t.itself z.0 in
    split_on (same z.0 y.0)
    (λ d. let k = simp d at n in absurd (cc))
    (λ d. let k : find same z.0 ys ≡ None = simp d at n in
    split_on (same a y.0)
    (λ e. simp (e, d, s) (ap (λ l. y ∷ l) (without-absent same z.0 ys k)))
    (λ e. simp (e, d) (ap (λ l. y ∷ l) (without-put_same t (Some a) z ys k))))

put_before_first : {K A : Type 0} → {same : K → K → Bool} → IsTest same → (z : K × A) → (xs : List (K × A)) → put_before same (first xs) z xs ≡ z ∷ xs
put_before_first t z [] = refl
put_before_first t z (w ∷ r) = let s = t.itself w.0 in simp s

put_before-cons : {K A : Type 0} → (same : K → K → Bool) → (b : Option K) → (z y : K × A) → same_spot same b (Some y.0) ≡ false → (xs : List (K × A)) → put_before same b z (y ∷ xs) ≡ y ∷ put_before same b z xs
put_before-cons same None z y n xs = refl
put_before-cons same (Some b) z y n xs = simp n

spot_other : {K : Type 0} → {same : K → K → Bool} → IsTest same → (b : Option K) → (k : K) → ((q : K) → b ≡ Some q → q ≡ k → ⊥) → same_spot same b (Some k) ≡ false
spot_other t None k h = refl
spot_other t (Some b) k h = split_keys t b k (λ e q. absurd (h b refl q)) (λ e. e)

-- a neighbour of a list isn't what doesn't stand in it
pub neighbour_other : {K A : Type 0} → {same : K → K → Bool} → IsTest same → (p k : K) → (xs : List (K × A)) → find same k xs ≡ None → same_spot same (behind same p xs) (Some k) ≡ false
neighbour_other {same = same} t p k xs n = spot_other t (behind same p xs) k (λ q e d. behind_found t p q xs e (ap (λ s. find same s xs) d ∙ n))

pair_is : {K A : Type 0} → (y : K × A) → (p : K) → (x : A) → p ≡ y.0 → y.1 ≡ x → (p, x) ≡ y
pair_is y p x e d = ap (λ k. (k, x)) e ∙ sym (ap (λ v. (y.0, v)) d)

pub put_before-without : {K A : Type 0} → {same : K → K → Bool} → IsTest same → (p : K) → (x : A) → (xs : List (K × A)) → Distinct same xs → find same p xs ≡ Some x → put_before same (behind same p xs) (p, x) (without same p xs) ≡ xs
put_before-without t p x [] u h = cc
put_before-without {same = same} t p x (y ∷ ys) u h =
    split_keys t p y.0
    (λ e q. let k : Some y.1 ≡ Some x = simp e at h in
    let g : find same p ys ≡ None = ap (λ s. find same s ys) q ∙ u.0 in
    let w = without-absent same p ys g in
    simp (e, w) (put_before_first t (p, x) ys ∙ ap (λ z. z ∷ ys) (pair_is y p x q (unsome k))))
    (λ e. let k : find same p ys ≡ Some x = simp e at h in
    simp e (put_before-cons same (behind same p ys) (p, x) y (neighbour_other t p y.0 ys u.0) (without same p ys) ∙ ap (λ l. y ∷ l) (put_before-without t p x ys u.1 k)))
