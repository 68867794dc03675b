-- Neighbours in a list of distinct tags: none is its own, two anchors have two, and they stay when an item is taken out or moved.
use Rattle.std.proofs.Common.{◌≡◌, Bool, false, List, [], ◌∷◌, Option, Some, None, refl, ap, ◌∙◌}
use Rattle.balise_rules.specs.declared.tag.Tag.{Tag}
use Rattle.balise_rules.specs.Tagged.{find, first, behind, next, same_spot, without, move, Distinct}
use Rattle.balise_rules.specs.Tags.{same_tag}
use Rattle.balise_rules.specs.Accepting.{Stands}
use Rattle.balise_rules.proofs.Tests.{IsTest, split_on, split_keys, apart_from, flip_no, flip_spot, tag_test}
use Rattle.balise_rules.proofs.Cases.{found}
use Rattle.balise_rules.proofs.Lists.{behind_found, find-without_same, next-without}
use Rattle.balise_rules.proofs.ListsBack.{neighbour_other}
use Rattle.balise_rules.proofs.Anchors.{behind-put_in, stands-without}
use Rattle.balise_rules.proofs.Moved.{move_is, find-move}

-- the first isn't what doesn't stand there
first_other : {K A : Type 0} → {same : K → K → Bool} → IsTest same → (k : K) → (xs : List (K × A)) → find same k xs ≡ None → same_spot same (first xs) (Some k) ≡ false
first_other t k [] n = refl
first_other {same = same} t k (y ∷ ys) n = split_on (same k y.0) (λ e. let w = simp e at n in absurd cc) (λ e. flip_no t k y.0 e)

-- nothing is its own neighbour
behind_other : {K A : Type 0} → {same : K → K → Bool} → IsTest same → (p : K) → (xs : List (K × A)) → Distinct same xs → same_spot same (behind same p xs) (Some p) ≡ false
behind_other t p [] u = refl
behind_other {same = same} t p (y ∷ ys) u =
    split_keys t p y.0
    (λ e q. let g : find same p ys ≡ None = ap (λ s. find same s ys) q ∙ u.0 in simp e (first_other t p ys g))
    (λ e. simp e (behind_other t p ys u.1))

-- what comes first comes after nothing
first_apart : {K A : Type 0} → {same : K → K → Bool} → IsTest same → (p : K) → (x : A) → (xs : List (K × A)) → Distinct same xs → find same p xs ≡ Some x → same_spot same (first xs) (behind same p xs) ≡ false
first_apart t p x [] u h = absurd cc
first_apart {same = same} t p x (y ∷ ys) u h =
    split_keys t p y.0
    (λ e q. simp e (flip_spot t (first ys) (Some y.0) (first_other t y.0 ys u.0)))
    (λ e. simp e (flip_spot t (behind same p ys) (Some y.0) (neighbour_other t p y.0 ys u.0)))

behind_apart : {K A : Type 0} → {same : K → K → Bool} → IsTest same → (c p : K) → (z x : A) → (xs : List (K × A)) → Distinct same xs → find same c xs ≡ Some z → find same p xs ≡ Some x → same c p ≡ false → same_spot same (behind same c xs) (behind same p xs) ≡ false
behind_apart t c p z x [] u h k n = absurd cc
behind_apart {same = same} t c p z x (y ∷ ys) u h k n =
    split_on (same c y.0)
    (λ e. let o : same p y.0 ≡ false = apart_from t c y.0 p e (flip_no t c p n) in
    let w : find same p ys ≡ Some x = simp o at k in simp (e, o) (first_apart t p x ys u.1 w))
    (λ e. let v : find same c ys ≡ Some z = simp e at h in
    split_on (same p y.0)
    (λ f. simp (e, f) (flip_spot t (first ys) (behind same c ys) (first_apart t c z ys u.1 v)))
    (λ f. let w : find same p ys ≡ Some x = simp f at k in simp (e, f) (behind_apart t c p z x ys u.1 v w n)))

-- two anchors have two neighbours
next_apart : {A : Type 0} → (a : Option Tag) → (p : Tag) → (xs : List (Tag × A)) → Distinct same_tag xs → Stands a xs → Stands (Some p) xs → same_spot same_tag a (Some p) ≡ false → same_spot same_tag (next same_tag a xs) (behind same_tag p xs) ≡ false
next_apart None p xs u s h n = first_apart tag_test p h.0 xs u h.1
next_apart (Some c) p xs u s h n = behind_apart tag_test c p s.0 h.0 xs u s.1 h.1 n

-- a neighbour stands, and is another
neighbour_stands : {A : Type 0} → (p : Tag) → (xs : List (Tag × A)) → (b : Option Tag) → behind same_tag p xs ≡ b → Stands b xs
neighbour_stands p xs None e = tt
neighbour_stands p xs (Some q) e = found (find same_tag q xs) (λ n. absurd (behind_found tag_test p q xs e n)) (λ x f. (x, f))

pub neighbour_apart : {A : Type 0} → (p : Tag) → (xs : List (Tag × A)) → Distinct same_tag xs → same_spot same_tag (behind same_tag p xs) (Some p) ≡ false
neighbour_apart p xs u = behind_other tag_test p xs u

-- where the item itself is taken out
pub neighbour_without : {A : Type 0} → (p : Tag) → (xs : List (Tag × A)) → Distinct same_tag xs → Stands (behind same_tag p xs) (without same_tag p xs)
neighbour_without p xs u = stands-without (behind same_tag p xs) p xs (neighbour_apart p xs u) (neighbour_stands p xs (behind same_tag p xs) refl)

-- where it is moved
stands_moved : {A : Type 0} → (b a : Option Tag) → (p : Tag) → (xs : List (Tag × A)) → same_spot same_tag b (Some p) ≡ false → Stands b xs → Stands b (move same_tag p a xs)
stands_moved None a p xs n s = tt
stands_moved (Some q) a p xs n s = (s.0, find-move tag_test q p a n xs ∙ s.1)

pub neighbour_moved : {A : Type 0} → (a : Option Tag) → (p : Tag) → (xs : List (Tag × A)) → Distinct same_tag xs → Stands (behind same_tag p xs) (move same_tag p a xs)
neighbour_moved a p xs u = stands_moved (behind same_tag p xs) a p xs (neighbour_apart p xs u) (neighbour_stands p xs (behind same_tag p xs) refl)

-- what is moved gets another neighbour
pub moved_away : {A : Type 0} → (a : Option Tag) → (p : Tag) → (xs : List (Tag × A)) → Distinct same_tag xs → Stands a xs → Stands (Some p) xs → same_spot same_tag a (Some p) ≡ false → same_spot same_tag (next same_tag a xs) (Some p) ≡ false → same_spot same_tag (behind same_tag p (move same_tag p a xs)) (behind same_tag p xs) ≡ false
moved_away a p xs u s h n m =
    let rest = without same_tag p xs in
    let now : behind same_tag p (move same_tag p a xs) ≡ next same_tag a xs =
    ap (behind same_tag p) (move_is same_tag p a h.0 xs h.1)
    ∙ behind-put_in a (p, h.0) rest (stands-without a p xs n s) (find-without_same same_tag p xs)
    ∙ next-without tag_test a p n xs (flip_spot tag_test (next same_tag a xs) (Some p) m) in
    ap (λ b. same_spot same_tag b (behind same_tag p xs)) now ∙ next_apart a p xs u s h n
