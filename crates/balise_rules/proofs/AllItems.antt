-- What all items of a tagged list have: the one that is found has it, and all have it after each change that keeps it.
-- From the changes of a list, item by item.
use Rattle.std.proofs.Common.{◌≡◌, Bool, All, List, [], ◌∷◌, Option, Some, None, sym, subst}
use Rattle.std.proofs.lemmas.List.Elements.{All-head, All-tail, All-cons, All-nil}
use Rattle.balise_rules.specs.Tagged.{find, each, Distinct, put, put_found, without, move}
use Rattle.balise_rules.proofs.Cases.{unsome, found}
use Rattle.balise_rules.proofs.Tests.{IsTest, split_on}
use Rattle.balise_rules.proofs.Each.{found_later}

-- what all items have, the one that is found has
pub all_found : {K A : Type 0} → (P : A → Type 0) → (same : K → K → Bool) → (xs : List (K × A)) → All (λ y. P y.1) xs → (k : K) → (x : A) → find same k xs ≡ Some x → P x
all_found P same [] a k x h = cc
all_found P same (y ∷ ys) a k x h =
    split_on (same k y.0)
    (λ e. let w : Some y.1 ≡ Some x = simp e at h in subst P (unsome w) (All-head (λ z. P z.1) y ys a))
    (λ e. let w : find same k ys ≡ Some x = simp e at h in all_found P same ys (All-tail (λ z. P z.1) y ys a) k x w)

-- what all have, all have after each was changed
pub all-each : {K A : Type 0} → (P Q : A → Type 0) → (f : K → A → A) → ((k : K) → (x : A) → P x → Q (f k x)) → (xs : List (K × A)) → All (λ z. P z.1) xs → All (λ z. Q z.1) (each f xs)
all-each P Q f h [] a = All-nil (λ z. Q z.1)
all-each P Q f h (y ∷ ys) a = All-cons (λ z. Q z.1) (y.0, f y.0 y.1) (each f ys) (h y.0 y.1 (All-head (λ z. P z.1) y ys a)) (all-each P Q f h ys (All-tail (λ z. P z.1) y ys a))

pub all-put : {K A : Type 0} → (P : A → Type 0) → (same : K → K → Bool) → (a : Option K) → (z : K × A) → (xs : List (K × A)) → P z.1 → All (λ w. P w.1) xs → All (λ w. P w.1) (put same a z xs)
all-put P same None z xs h a = All-cons (λ w. P w.1) z xs h a
all-put P same (Some k) z [] h a = a
all-put P same (Some k) z (y ∷ ys) h a =
    let b = All-head (λ w. P w.1) y ys a in let d = All-tail (λ w. P w.1) y ys a in
    split_on (same k y.0)
    (λ e. simp e (All-cons (λ w. P w.1) y (z ∷ ys) b (All-cons (λ w. P w.1) z ys h d)))
    (λ e. simp e (All-cons (λ w. P w.1) y (put same (Some k) z ys) b (all-put P same (Some k) z ys h d)))

pub all-without : {K A : Type 0} → (P : A → Type 0) → (same : K → K → Bool) → (k : K) → (xs : List (K × A)) → All (λ w. P w.1) xs → All (λ w. P w.1) (without same k xs)
all-without P same k [] a = a
all-without P same k (y ∷ ys) a =
    let b = All-head (λ w. P w.1) y ys a in let d = all-without P same k ys (All-tail (λ w. P w.1) y ys a) in
    split_on (same k y.0) (λ e. simp e d) (λ e. simp e (All-cons (λ w. P w.1) y (without same k ys) b d))

pub all-move : {K A : Type 0} → (P : A → Type 0) → (same : K → K → Bool) → (k : K) → (a : Option K) → (xs : List (K × A)) → All (λ w. P w.1) xs → All (λ w. P w.1) (move same k a xs)
all-move P same k a xs h =
    found (find same k xs)
    (λ e. subst (λ o. All (λ w. P w.1) (put_found same o k a (without same k xs))) (sym e) (all-without P same k xs h))
    (λ x e. subst (λ o. All (λ w. P w.1) (put_found same o k a (without same k xs))) (sym e) (all-put P same a (k, x) (without same k xs) (all_found P same xs h k x e) (all-without P same k xs h)))

-- what each changed item has that was found
pub all-each_found : {K A : Type 0} → {same : K → K → Bool} → IsTest same → (Q : A → Type 0) → (f : K → A → A) → (xs : List (K × A)) → Distinct same xs → ((k : K) → (x : A) → find same k xs ≡ Some x → Q (f k x)) → All (λ z. Q z.1) (each f xs)
all-each_found t Q f [] u h = All-nil (λ z. Q z.1)
all-each_found t Q f (y ∷ ys) u h =
    let r = t.itself y.0 in
    All-cons (λ z. Q z.1) (y.0, f y.0 y.1) (each f ys) (h y.0 y.1 (simp r)) (all-each_found t Q f ys u.1 (λ k x e. h k x (found_later t y ys u.0 k x e)))
