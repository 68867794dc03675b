-- Lists joined and turned round: their keys, what is found in them, and a change of each item.
-- From the law that the head comes last.
-- A turned group has its telegrams in the other order.
use Rattle.std.proofs.Common.{◌≡◌, Bool, List, [], ◌∷◌, ◌++◌, reverse, Some, None, refl, sym, ap, ◌∙◌}
use Rattle.std.proofs.lemmas.List.{reverse-append}
use Rattle.balise_rules.specs.Tagged.{find, each, Distinct}
use Rattle.balise_rules.proofs.Tests.{IsTest, split_on, split_keys, flip_no}
use Rattle.balise_rules.proofs.Cases.{found}
use mathlib.Core.List.{reverse_aux}

each-aux : {K A : Type 0} → (f : K → A → A) → (xs ys : List (K × A)) → each f (reverse_aux xs ys) ≡ reverse_aux (each f xs) (each f ys)
each-aux f [] ys = refl
each-aux f (x ∷ xs) ys = each-aux f xs (x ∷ ys)

pub each-reverse : {K A : Type 0} → (f : K → A → A) → (xs : List (K × A)) → each f (reverse xs) ≡ reverse (each f xs)
each-reverse f xs = each-aux f xs []

pub find-append : {K A : Type 0} → (same : K → K → Bool) → (k : K) → (xs ys : List (K × A)) → find same k xs ≡ None → find same k (xs ++ ys) ≡ find same k ys
find-append same k [] ys h = refl
find-append same k (x ∷ xs) ys h = split_on (same k x.0) (λ e. absurd (let w = simp e at h in cc)) (λ e. let w : find same k xs ≡ None = simp e at h in simp e (find-append same k xs ys w))

pub find-append_some : {K A : Type 0} → (same : K → K → Bool) → (k : K) → (x : A) → (xs ys : List (K × A)) → find same k xs ≡ Some x → find same k (xs ++ ys) ≡ Some x
find-append_some same k x [] ys h = cc
find-append_some same k x (y ∷ xs) ys h =
    split_on (same k y.0) (λ e. let w : Some y.1 ≡ Some x = simp e at h in simp e w) (λ e. let w : find same k xs ≡ Some x = simp e at h in simp e (find-append_some same k x xs ys w))

pub find-reverse : {K A : Type 0} → {same : K → K → Bool} → IsTest same → (k : K) → (xs : List (K × A)) → Distinct same xs → find same k (reverse xs) ≡ find same k xs
find-reverse t k [] u = refl
find-reverse {same = same} t k (y ∷ ys) u =
    rw (reverse-append (y ∷ []) ys)
    (split_keys t k y.0
    (λ e q. let n : find same k (reverse ys) ≡ None = find-reverse t k ys u.1 ∙ ap (λ c. find same c ys) q ∙ u.0 in
    let l : find same k (y ∷ []) ≡ find same k (y ∷ ys) = simp e in find-append same k (reverse ys) (y ∷ []) n ∙ l)
    (λ e. found (find same k ys)
    (λ n. let w : find same k (reverse ys) ≡ None = find-reverse t k ys u.1 ∙ n in let r : find same k (y ∷ ys) ≡ None = simp e n in let l : find same k (y ∷ []) ≡ None = simp e in find-append same k (reverse ys) (y ∷ []) w ∙ l ∙ sym r)
    (λ x n. let w : find same k (reverse ys) ≡ Some x = find-reverse t k ys u.1 ∙ n in let r : find same k (y ∷ ys) ≡ Some x = simp e n in find-append_some same k x (reverse ys) (y ∷ []) w ∙ sym r)))

pub distinct_last : {K A : Type 0} → {same : K → K → Bool} → IsTest same → (y : K × A) → (xs : List (K × A)) → Distinct same xs → find same y.0 xs ≡ None → Distinct same (xs ++ y ∷ [])
distinct_last t y [] u n = (refl, tt)
distinct_last {same = same} t y (x ∷ xs) u n =
    split_on (same y.0 x.0)
    (λ e. absurd (let w = simp e at n in cc))
    (λ e. let w : find same y.0 xs ≡ None = simp e at n in
    let o = flip_no t y.0 x.0 e in
    let l : find same x.0 (y ∷ []) ≡ None = simp o in
    (find-append same x.0 xs (y ∷ []) u.0 ∙ l, distinct_last t y xs u.1 w))

pub distinct-reverse : {K A : Type 0} → {same : K → K → Bool} → IsTest same → (xs : List (K × A)) → Distinct same xs → Distinct same (reverse xs)
distinct-reverse t [] u = tt
distinct-reverse {same = same} t (y ∷ ys) u = rw (reverse-append (y ∷ []) ys) (distinct_last t y (reverse ys) (distinct-reverse t ys u.1) (find-reverse t y.0 ys u.1 ∙ u.0))
