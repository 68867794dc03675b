-- Tagged lists: what the changes of a list are to one another, and what is found after each. Said once, for any keys with a test.
use Rattle.std.proofs.Common.{◌≡◌, Bool, true, false, List, [], ◌∷◌, Option, Some, None, refl, sym, ap, ◌∙◌}
use Rattle.std.proofs.lemmas.Bool.{true≢false}
use Rattle.std.specs.Option.{option_map}
use Rattle.balise_rules.specs.Tagged.{find, first, behind, next, same_spot, put_behind, put, without, each, Distinct}
use Rattle.balise_rules.proofs.Tests.{IsTest, split_on, split_keys, apart_from, flip_no}
use Rattle.balise_rules.proofs.Cases.{unsome}

-- removals commute
pub without-without : {K A : Type 0} → (same : K → K → Bool) → (p q : K) → (xs : List (K × A)) → without same p (without same q xs) ≡ without same q (without same p xs)
without-without same p q [] = refl
without-without same p q (y ∷ ys) =
    let ih = without-without same p q ys in
    split_on (same p y.0)
    (λ e. split_on (same q y.0) (λ d. simp (e, d) ih) (λ d. simp (e, d) ih))
    (λ e. split_on (same q y.0) (λ d. simp (e, d) ih) (λ d. simp (e, d) (ap (λ l. y ∷ l) ih)))

-- a removal and an insertion commute
pub without-put_behind : {K A : Type 0} → {same : K → K → Bool} → IsTest same → (p a : K) → (z : K × A) → same p z.0 ≡ false → same p a ≡ false → (xs : List (K × A)) → without same p (put_behind same a z xs) ≡ put_behind same a z (without same p xs)
without-put_behind t p a z nz na [] = refl
without-put_behind {same = same} t p a z nz na (y ∷ ys) =
    let ih = without-put_behind t p a z nz na ys in
    split_on (same a y.0)
    (λ e. let d = apart_from t a y.0 p e na in simp (e, d, nz))
    (λ e. split_on (same p y.0) (λ d. simp (e, d) ih) (λ d. simp (e, d) (ap (λ l. y ∷ l) ih)))

pub without-put : {K A : Type 0} → {same : K → K → Bool} → IsTest same → (p : K) → (a : Option K) → (z : K × A) → same p z.0 ≡ false → same_spot same (Some p) a ≡ false → (xs : List (K × A)) → without same p (put same a z xs) ≡ put same a z (without same p xs)
without-put t p None z nz na xs = simp nz
without-put t p (Some a) z nz na xs = without-put_behind t p a z nz na xs

-- two insertions commute
pub put_behind-put_behind : {K A : Type 0} → {same : K → K → Bool} → IsTest same → (a b : K) → (z w : K × A) → same a b ≡ false → same a w.0 ≡ false → same b z.0 ≡ false → (xs : List (K × A)) → put_behind same a z (put_behind same b w xs) ≡ put_behind same b w (put_behind same a z xs)
put_behind-put_behind t a b z w nab nw nz [] = refl
put_behind-put_behind {same = same} t a b z w nab nw nz (y ∷ ys) =
    let ih = put_behind-put_behind t a b z w nab nw nz ys in
    split_on (same a y.0)
    (λ e. let d = apart_from t a y.0 b e (flip_no t a b nab) in simp (e, d, nz))
    (λ e. split_on (same b y.0) (λ d. simp (e, d, nw)) (λ d. simp (e, d) (ap (λ l. y ∷ l) ih)))

pub put-put : {K A : Type 0} → {same : K → K → Bool} → IsTest same → (a b : Option K) → (z w : K × A) → same_spot same a b ≡ false → same_spot same a (Some w.0) ≡ false → same_spot same b (Some z.0) ≡ false → (xs : List (K × A)) → put same a z (put same b w xs) ≡ put same b w (put same a z xs)
put-put t None None z w n na nb xs = absurd (true≢false n)
put-put t None (Some b) z w n na nb xs = simp nb
put-put t (Some a) None z w n na nb xs = simp na
put-put t (Some a) (Some b) z w n na nb xs = put_behind-put_behind t a b z w n na nb xs

-- a change of each item, with the changes of a list
pub each-put_behind : {K A : Type 0} → (same : K → K → Bool) → (f : K → A → A) → (a : K) → (z : K × A) → (xs : List (K × A)) → each f (put_behind same a z xs) ≡ put_behind same a (z.0, f z.0 z.1) (each f xs)
each-put_behind same f a z [] = refl
each-put_behind same f a z (y ∷ ys) =
    let ih = each-put_behind same f a z ys in
    split_on (same a y.0) (λ e. simp e) (λ e. simp e (ap (λ l. (y.0, f y.0 y.1) ∷ l) ih))

pub each-put : {K A : Type 0} → (same : K → K → Bool) → (f : K → A → A) → (a : Option K) → (z : K × A) → (xs : List (K × A)) → each f (put same a z xs) ≡ put same a (z.0, f z.0 z.1) (each f xs)
each-put same f None z xs = refl
each-put same f (Some a) z xs = each-put_behind same f a z xs

pub each-without : {K A : Type 0} → (same : K → K → Bool) → (f : K → A → A) → (p : K) → (xs : List (K × A)) → each f (without same p xs) ≡ without same p (each f xs)
each-without same f p [] = refl
each-without same f p (y ∷ ys) =
    let ih = each-without same f p ys in
    split_on (same p y.0) (λ e. simp e ih) (λ e. simp e (ap (λ l. (y.0, f y.0 y.1) ∷ l) ih))

-- what is found
pub find-put_behind : {K A : Type 0} → (same : K → K → Bool) → (k a : K) → (z : K × A) → same k z.0 ≡ false → (xs : List (K × A)) → find same k (put_behind same a z xs) ≡ find same k xs
find-put_behind same k a z n [] = refl
find-put_behind same k a z n (y ∷ ys) =
    let ih = find-put_behind same k a z n ys in
    split_on (same a y.0) (λ e. simp (e, n))
    (λ e. split_on (same k y.0) (λ d. simp (e, d)) (λ d. simp (e, d) ih))

pub find-put : {K A : Type 0} → (same : K → K → Bool) → (k : K) → (a : Option K) → (z : K × A) → same k z.0 ≡ false → (xs : List (K × A)) → find same k (put same a z xs) ≡ find same k xs
find-put same k None z n xs = simp n
find-put same k (Some a) z n xs = find-put_behind same k a z n xs

pub find-without : {K A : Type 0} → {same : K → K → Bool} → IsTest same → (k p : K) → same k p ≡ false → (xs : List (K × A)) → find same k (without same p xs) ≡ find same k xs
find-without t k p n [] = refl
find-without {same = same} t k p n (y ∷ ys) =
    let ih = find-without t k p n ys in
    split_on (same p y.0) (λ e. let d = apart_from t p y.0 k e n in simp (e, d) ih)
    (λ e. split_on (same k y.0) (λ d. simp (e, d)) (λ d. simp (e, d) ih))

pub find-each : {K A : Type 0} → {same : K → K → Bool} → IsTest same → (f : K → A → A) → (k : K) → (xs : List (K × A)) → find same k (each f xs) ≡ option_map (f k) (find same k xs)
find-each t f k [] = refl
find-each t f k (y ∷ ys) =
    let ih = find-each t f k ys in
    split_keys t k y.0 (λ e q. simp e (ap (λ s. Some (f s y.1)) (sym q))) (λ e. simp e ih)

-- what is taken out isn't found
pub find-without_same : {K A : Type 0} → (same : K → K → Bool) → (p : K) → (xs : List (K × A)) → find same p (without same p xs) ≡ None
find-without_same same p [] = refl
find-without_same same p (y ∷ ys) = let ih = find-without_same same p ys in split_on (same p y.0) (λ e. simp e ih) (λ e. simp e ih)

-- what isn't there isn't taken out
pub without-absent : {K A : Type 0} → (same : K → K → Bool) → (k : K) → (xs : List (K × A)) → find same k xs ≡ None → without same k xs ≡ xs
without-absent same k [] n = refl
without-absent same k (y ∷ ys) n =
    split_on (same k y.0)
    (λ e. absurd (let h = simp e at n in cc))
    (λ e. let h = simp e at n in simp e (ap (λ l. y ∷ l) (without-absent same k ys h)))

-- neighbours
pub first-put_behind : {K A : Type 0} → (same : K → K → Bool) → (a : K) → (z : K × A) → (xs : List (K × A)) → first (put_behind same a z xs) ≡ first xs
first-put_behind same a z [] = refl
first-put_behind same a z (y ∷ ys) = split_on (same a y.0) (λ e. simp e) (λ e. simp e)

pub behind-put_behind : {K A : Type 0} → {same : K → K → Bool} → IsTest same → (c a : K) → (z : K × A) → same c a ≡ false → same c z.0 ≡ false → (xs : List (K × A)) → behind same c (put_behind same a z xs) ≡ behind same c xs
behind-put_behind t c a z n nz [] = refl
behind-put_behind {same = same} t c a z n nz (y ∷ ys) =
    let ih = behind-put_behind t c a z n nz ys in
    split_on (same c y.0)
    (λ e. let d = apart_from t c y.0 a e (flip_no t c a n) in simp (e, d) (first-put_behind same a z ys))
    (λ e. split_on (same a y.0) (λ d. simp (e, d, nz)) (λ d. simp (e, d) ih))

pub next-put : {K A : Type 0} → {same : K → K → Bool} → IsTest same → (c a : Option K) → (z : K × A) → same_spot same c a ≡ false → same_spot same c (Some z.0) ≡ false → (xs : List (K × A)) → next same c (put same a z xs) ≡ next same c xs
next-put t None None z n nz xs = absurd (true≢false n)
next-put {same = same} t None (Some a) z n nz xs = first-put_behind same a z xs
next-put t (Some c) None z n nz xs = simp nz
next-put t (Some c) (Some a) z n nz xs = behind-put_behind t c a z n nz xs

pub first-each : {K A : Type 0} → (f : K → A → A) → (xs : List (K × A)) → first (each f xs) ≡ first xs
first-each f [] = refl
first-each f (y ∷ ys) = refl

pub behind-each : {K A : Type 0} → (same : K → K → Bool) → (f : K → A → A) → (c : K) → (xs : List (K × A)) → behind same c (each f xs) ≡ behind same c xs
behind-each same f c [] = refl
behind-each same f c (y ∷ ys) =
    let ih = behind-each same f c ys in
    split_on (same c y.0) (λ e. simp e (first-each f ys)) (λ e. simp e ih)

pub next-each : {K A : Type 0} → (same : K → K → Bool) → (f : K → A → A) → (c : Option K) → (xs : List (K × A)) → next same c (each f xs) ≡ next same c xs
next-each same f None xs = first-each f xs
next-each same f (Some c) xs = behind-each same f c xs

-- what comes after a key stands in the list
pub behind_found : {K A : Type 0} → {same : K → K → Bool} → IsTest same → (c q : K) → (xs : List (K × A)) → behind same c xs ≡ Some q → find same q xs ≡ None → ⊥
behind_found t c q [] h n = cc
behind_found {same = same} t c q (y ∷ []) h n = split_on (same c y.0) (λ e. let k = simp e at h in cc) (λ e. let k = simp e at h in cc)
behind_found {same = same} t c q (y ∷ (w ∷ r)) h n =
    split_on (same q y.0) (λ d. let k = simp d at n in cc)
    (λ d. split_on (same c y.0)
    (λ e. let g : Some w.0 ≡ Some q = simp e at h in let s : same q w.0 ≡ true = ap (same q) (unsome g) ∙ t.itself q in let k = simp (d, s) at n in cc)
    (λ e. let g : behind same c (w ∷ r) ≡ Some q = simp e at h in let m : find same q (w ∷ r) ≡ None = simp d at n in behind_found t c q (w ∷ r) g m))

pub first-without : {K A : Type 0} → (same : K → K → Bool) → (q : K) → (xs : List (K × A)) → same_spot same (Some q) (first xs) ≡ false → first (without same q xs) ≡ first xs
first-without same q [] n = refl
first-without same q (y ∷ ys) n = simp n

-- a removal leaves each neighbour but the one removed
pub behind-without : {K A : Type 0} → {same : K → K → Bool} → IsTest same → (c q : K) → same c q ≡ false → (xs : List (K × A)) → same_spot same (Some q) (behind same c xs) ≡ false → behind same c (without same q xs) ≡ behind same c xs
behind-without t c q n [] h = refl
behind-without {same = same} t c q n (y ∷ ys) h =
    split_on (same c y.0)
    (λ e. let d = apart_from t c y.0 q e (flip_no t c q n) in let k : same_spot same (Some q) (first ys) ≡ false = simp e at h in simp (e, d) (first-without same q ys k))
    (λ e. let k : same_spot same (Some q) (behind same c ys) ≡ false = simp e at h in let ih = behind-without t c q n ys k in
    split_on (same q y.0) (λ d. simp (e, d) ih) (λ d. simp (e, d) ih))

pub next-without : {K A : Type 0} → {same : K → K → Bool} → IsTest same → (c : Option K) → (q : K) → same_spot same c (Some q) ≡ false → (xs : List (K × A)) → same_spot same (Some q) (next same c xs) ≡ false → next same c (without same q xs) ≡ next same c xs
next-without {same = same} t None q n xs h = first-without same q xs h
next-without t (Some c) q n xs h = behind-without t c q n xs h

-- and the neighbour of the one removed takes its place
pub first-gone : {K A : Type 0} → {same : K → K → Bool} → IsTest same → (q : K) → (xs : List (K × A)) → Distinct same xs → first xs ≡ Some q → first (without same q xs) ≡ behind same q xs
first-gone t q [] u h = cc
first-gone {same = same} t q (y ∷ ys) u h =
    let s : same q y.0 ≡ true = ap (same q) (unsome h) ∙ t.itself q in
    let g : find same q ys ≡ None = ap (λ k. find same k ys) (sym (unsome h)) ∙ u.0 in
    simp s (ap first (without-absent same q ys g))

pub behind-gone : {K A : Type 0} → {same : K → K → Bool} → IsTest same → (c q : K) → same c q ≡ false → (xs : List (K × A)) → Distinct same xs → behind same c xs ≡ Some q → behind same c (without same q xs) ≡ behind same q xs
behind-gone t c q n [] u h = cc
behind-gone {same = same} t c q n (y ∷ ys) u h =
    split_on (same c y.0)
    (λ e. let d = apart_from t c y.0 q e (flip_no t c q n) in let k : first ys ≡ Some q = simp e at h in simp (e, d) (first-gone t q ys u.1 k))
    (λ e. let k : behind same c ys ≡ Some q = simp e at h in
    split_keys t q y.0 (λ d q'. absurd (behind_found t c q ys k (ap (λ s. find same s ys) q' ∙ u.0)))
    (λ d. simp (e, d) (behind-gone t c q n ys u.1 k)))

pub next-gone : {K A : Type 0} → {same : K → K → Bool} → IsTest same → (c : Option K) → (q : K) → same_spot same c (Some q) ≡ false → (xs : List (K × A)) → Distinct same xs → next same c xs ≡ Some q → next same c (without same q xs) ≡ behind same q xs
next-gone t None q n xs u h = first-gone t q xs u h
next-gone t (Some c) q n xs u h = behind-gone t c q n xs u h
