-- Tagged lists in which an item is moved: what is found, and what a move is to the other changes of a list. For any keys with a test.
-- From the laws of an item taken out and put in.
-- A move that is taken back leaves the list as it was.
use Rattle.std.proofs.Common.{◌≡◌, Bool, false, List, Option, Some, None, sym, ap, ◌∙◌}
use Rattle.std.specs.Option.{option_map}
use Rattle.balise_rules.specs.Tagged.{find, behind, same_spot, put, put_before, put_found, without, move, each, Distinct}
use Rattle.balise_rules.proofs.Cases.{found}
use Rattle.balise_rules.proofs.Tests.{IsTest, split_keys, flip_no, flip_spot}
use Rattle.balise_rules.proofs.Lists.{without-without, without-put, put-put, each-put, each-without, find-put, find-without, find-without_same, find-each}
use Rattle.balise_rules.proofs.ListsBack.{without-put_same, put_before-without}
use Rattle.balise_rules.proofs.Distincts.{absent-without}

-- a move of an item that stands
pub move_is : {K A : Type 0} → (same : K → K → Bool) → (p : K) → (a : Option K) → (x : A) → (xs : List (K × A)) → find same p xs ≡ Some x → move same p a xs ≡ put same a (p, x) (without same p xs)
move_is same p a x xs h = ap (λ o. put_found same o p a (without same p xs)) h

-- another item is found as before the move
pub find-move : {K A : Type 0} → {same : K → K → Bool} → IsTest same → (q p : K) → (a : Option K) → same q p ≡ false → (xs : List (K × A)) → find same q (move same p a xs) ≡ find same q xs
find-move {same = same} t q p a n xs =
    found (find same p xs)
    (λ e. ap (λ o. find same q (put_found same o p a (without same p xs))) e ∙ find-without t q p n xs)
    (λ x e. ap (find same q) (move_is same p a x xs e) ∙ find-put same q a (p, x) n (without same p xs) ∙ find-without t q p n xs)

-- what isn't there isn't there after a move
pub absent-move : {K A : Type 0} → {same : K → K → Bool} → IsTest same → (k p : K) → (a : Option K) → (xs : List (K × A)) → find same k xs ≡ None → find same k (move same p a xs) ≡ None
absent-move {same = same} t k p a xs n =
    split_keys t k p
    (λ e q. let m : find same p xs ≡ None = ap (λ u. find same u xs) (sym q) ∙ n in
    ap (λ o. find same k (put_found same o p a (without same p xs))) m ∙ absent-without same k p xs n)
    (λ e. find-move t k p a e xs ∙ n)

-- a move taken back
pub move_back : {K A : Type 0} → {same : K → K → Bool} → IsTest same → (p : K) → (a : Option K) → (x : A) → (xs : List (K × A)) → Distinct same xs → find same p xs ≡ Some x → put_before same (behind same p xs) (p, x) (without same p (move same p a xs)) ≡ xs
move_back {same = same} t p a x xs u h =
    ap (λ l. put_before same (behind same p xs) (p, x) (without same p l)) (move_is same p a x xs h)
    ∙ ap (put_before same (behind same p xs) (p, x)) (without-put_same t a (p, x) (without same p xs) (find-without_same same p xs))
    ∙ put_before-without t p x xs u h

-- a move commutes with a change of each item, an insertion, a removal and another move
find-found : {K A : Type 0} → {same : K → K → Bool} → IsTest same → (f : K → A → A) → (p : K) → (o : Option A) → (xs : List (K × A)) → find same p xs ≡ o → find same p (each f xs) ≡ option_map (f p) o
find-found t f p o xs h = find-each t f p xs ∙ ap (option_map (f p)) h

pub each-move : {K A : Type 0} → {same : K → K → Bool} → IsTest same → (f : K → A → A) → (p : K) → (a : Option K) → (xs : List (K × A)) → each f (move same p a xs) ≡ move same p a (each f xs)
each-move {same = same} t f p a xs = found (find same p xs)
    (λ n. let g : find same p (each f xs) ≡ None = find-found t f p None xs n in simp (n, g) (each-without same f p xs))
    (λ x s. let g : find same p (each f xs) ≡ Some (f p x) = find-found t f p (Some x) xs s in simp (s, g) (each-put same f a (p, x) (without same p xs) ∙ ap (put same a (p, f p x)) (each-without same f p xs)))

pub put-move : {K A : Type 0} → {same : K → K → Bool} → IsTest same → (a c : Option K) → (q : K) → (z : K × A) → (xs : List (K × A)) → same q z.0 ≡ false → same_spot same (Some q) a ≡ false →
    same_spot same a c ≡ false → same_spot same c (Some z.0) ≡ false → put same a z (move same q c xs) ≡ move same q c (put same a z xs)
put-move {same = same} t a c q z xs nz na n nc = found (find same q xs)
    (λ e. let g : find same q (put same a z xs) ≡ None = find-put same q a z nz xs ∙ e in simp (e, g) (sym (without-put t q a z nz na xs)))
    (λ x e. let g : find same q (put same a z xs) ≡ Some x = find-put same q a z nz xs ∙ e in
    simp (e, g) (put-put t a c z (q, x) n (flip_spot t (Some q) a na) nc (without same q xs) ∙ ap (put same c (q, x)) (sym (without-put t q a z nz na xs))))

pub take-move : {K A : Type 0} → {same : K → K → Bool} → IsTest same → (p q : K) → (c : Option K) → (xs : List (K × A)) → same p q ≡ false → same_spot same (Some p) c ≡ false →
    without same p (move same q c xs) ≡ move same q c (without same p xs)
take-move {same = same} t p q c xs n nc = found (find same q xs)
    (λ e. let g : find same q (without same p xs) ≡ None = find-without t q p (flip_no t p q n) xs ∙ e in simp (e, g) (without-without same p q xs))
    (λ x e. let g : find same q (without same p xs) ≡ Some x = find-without t q p (flip_no t p q n) xs ∙ e in
    simp (e, g) (without-put t p c (q, x) n nc (without same q xs) ∙ ap (put same c (q, x)) (without-without same p q xs)))

pub move-move : {K A : Type 0} → {same : K → K → Bool} → IsTest same → (p q : K) → (a c : Option K) → (xs : List (K × A)) → same p q ≡ false → same_spot same a (Some q) ≡ false →
    same_spot same c (Some p) ≡ false → same_spot same a c ≡ false → move same p a (move same q c xs) ≡ move same q c (move same p a xs)
move-move {same = same} t p q a c xs n na nc nac = found (find same p xs)
    (λ e. let g : find same p (move same q c xs) ≡ None = find-move t p q c n xs ∙ e in
    simp (e, g) (take-move t p q c xs n (flip_spot t c (Some p) nc)))
    (λ x e. let g : find same p (move same q c xs) ≡ Some x = find-move t p q c n xs ∙ e in
    simp (e, g)
    (ap (put same a (p, x)) (take-move t p q c xs n (flip_spot t c (Some p) nc)) ∙ put-move t a c q (p, x) (without same p xs) (flip_no t p q n) (flip_spot t a (Some q) na) nac nc))
