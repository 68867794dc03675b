-- A list that has each key once has each key once after each of its changes, where what is put in is new.
use Rattle.std.proofs.Common.{◌≡◌, Bool, false, List, [], ◌∷◌, Option, Some, None, refl, ap, ◌∙◌}
use Rattle.std.specs.Option.{option_map}
use Rattle.balise_rules.specs.Tagged.{find, put, without, put_found, move, each, Distinct, Change, Each, Put, Take, Move, changed, IsNew}
use Rattle.balise_rules.proofs.Tests.{IsTest, split_on, flip_no}
use Rattle.balise_rules.proofs.Lists.{find-each, find-put_behind, find-without_same}

pub absent-each : {K A : Type 0} → {same : K → K → Bool} → IsTest same → (f : K → A → A) → (k : K) → (xs : List (K × A)) → find same k xs ≡ None → find same k (each f xs) ≡ None
absent-each t f k xs n = find-each t f k xs ∙ ap (option_map (f k)) n

pub distinct-each : {K A : Type 0} → {same : K → K → Bool} → IsTest same → (f : K → A → A) → (xs : List (K × A)) → Distinct same xs → Distinct same (each f xs)
distinct-each t f [] u = tt
distinct-each t f (y ∷ ys) u = (absent-each t f y.0 ys u.0, distinct-each t f ys u.1)

-- what isn't there isn't there after another is taken out
pub absent-without : {K A : Type 0} → (same : K → K → Bool) → (k p : K) → (xs : List (K × A)) → find same k xs ≡ None → find same k (without same p xs) ≡ None
absent-without same k p [] n = refl
absent-without same k p (y ∷ ys) n =
    split_on (same k y.0) (λ e. absurd (let h = simp e at n in cc))
    (λ e. let h : find same k ys ≡ None = simp e at n in let ih = absent-without same k p ys h in
    split_on (same p y.0) (λ d. simp d ih) (λ d. simp (e, d) ih))

pub distinct-without : {K A : Type 0} → (same : K → K → Bool) → (p : K) → (xs : List (K × A)) → Distinct same xs → Distinct same (without same p xs)
distinct-without same p [] u = tt
distinct-without same p (y ∷ ys) u =
    let ih = distinct-without same p ys u.1 in
    split_on (same p y.0) (λ d. simp d ih) (λ d. simp d (absent-without same y.0 p ys u.0, ih))

pub distinct-put : {K A : Type 0} → {same : K → K → Bool} → IsTest same → (a : Option K) → (z : K × A) → (xs : List (K × A)) → Distinct same xs → find same z.0 xs ≡ None → Distinct same (put same a z xs)
distinct-put t None z xs u n = (n, u)
distinct-put t (Some a) z [] u n = tt
distinct-put {same = same} t (Some a) z (y ∷ ys) u n =
    split_on (same z.0 y.0) (λ e. absurd (let h = simp e at n in cc))
    (λ e. let h : find same z.0 ys ≡ None = simp e at n in let other : same y.0 z.0 ≡ false = flip_no t z.0 y.0 e in
    split_on (same a y.0)
    (λ d. simp d (simp other u.0, (h, u.1)))
    (λ d. simp d (find-put_behind same y.0 a z other ys ∙ u.0, distinct-put t (Some a) z ys u.1 h)))

pub distinct-put_found : {K A : Type 0} → {same : K → K → Bool} → IsTest same → (o : Option A) → (k : K) → (a : Option K) → (xs : List (K × A)) → Distinct same xs → find same k xs ≡ None → Distinct same (put_found same o k a xs)
distinct-put_found t None k a xs u n = u
distinct-put_found t (Some x) k a xs u n = distinct-put t a (k, x) xs u n

pub distinct-move : {K A : Type 0} → {same : K → K → Bool} → IsTest same → (k : K) → (a : Option K) → (xs : List (K × A)) → Distinct same xs → Distinct same (move same k a xs)
distinct-move {same = same} t k a xs u = distinct-put_found t (find same k xs) k a (without same k xs) (distinct-without same k xs u) (find-without_same same k xs)

pub distinct-changed : {K A : Type 0} → {same : K → K → Bool} → IsTest same → (c : Change K A) → (xs : List (K × A)) → Distinct same xs → IsNew same c xs → Distinct same (changed same c xs)
distinct-changed t (Each f) xs u n = distinct-each t f xs u
distinct-changed t (Put a z) xs u n = distinct-put t a z xs u n
distinct-changed {same = same} t (Take k) xs u n = distinct-without same k xs u
distinct-changed t (Move k a) xs u n = distinct-move t k a xs u
