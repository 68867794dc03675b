-- Changes of each item: none, one after another, and such as undo one another.
-- From the distinct keys of a list: what is said of the items that are found holds of all.
use Rattle.std.proofs.Common.{◌≡◌, suc, Bool, List, [], ◌∷◌, length, Some, None, refl, sym, ap, ◌∙◌, cond}
use Rattle.balise_rules.specs.Tagged.{find, each, Distinct}
use Rattle.balise_rules.proofs.Tests.{IsTest, split_keys, split_on}

pub length-each : {K A : Type 0} → (f : K → A → A) → (xs : List (K × A)) → length (each f xs) ≡ length xs
length-each f [] = refl
length-each f (y ∷ ys) = ap suc (length-each f ys)

-- changes of nothing
pub each-same : {K A : Type 0} → (h : K → A → A) → (xs : List (K × A)) → ((t : K) → (x : A) → h t x ≡ x) → each h xs ≡ xs
each-same h [] k = refl
each-same h (y ∷ ys) k = ap (λ v. (y.0, v) ∷ each h ys) (k y.0 y.1) ∙ ap (λ l. y ∷ l) (each-same h ys k)

pub each-id : {K A : Type 0} → (xs : List (K × A)) → each (λ k x. x) xs ≡ xs
each-id xs = each-same (λ k x. x) xs (λ k x. refl)

-- a change of one item that isn't there
pub each-absent : {K A : Type 0} → (same : K → K → Bool) → (k : K) → (f : A → A) → (xs : List (K × A)) → find same k xs ≡ None → each (λ q x. cond (same k q) (f x) x) xs ≡ xs
each-absent same k f [] n = refl
each-absent same k f (y ∷ ys) n =
    split_on (same k y.0)
    (λ d. absurd (let h = simp d at n in cc))
    (λ d. let h : find same k ys ≡ None = simp d at n in simp d (ap (λ l. y ∷ l) (each-absent same k f ys h)))

-- what is found in the tail is found in the list
pub found_later : {K A : Type 0} → {same : K → K → Bool} → IsTest same → (y : K × A) → (ys : List (K × A)) → find same y.0 ys ≡ None → (k : K) → (x : A) → find same k ys ≡ Some x → find same k (y ∷ ys) ≡ Some x
found_later {same = same} t y ys n k x h =
    split_keys t k y.0
    (λ e q. absurd (let w : find same k ys ≡ None = ap (λ c. find same c ys) q ∙ n in let z = sym h ∙ w in cc))
    (λ e. simp e h)

-- two changes of each item that make the same of what is found
pub each-each : {K A : Type 0} → {same : K → K → Bool} → IsTest same → (f g h k : K → A → A) → (xs : List (K × A)) → Distinct same xs →
    ((i : K) → (x : A) → find same i xs ≡ Some x → f i (g i x) ≡ h i (k i x)) → each f (each g xs) ≡ each h (each k xs)
each-each t f g h k [] u c = refl
each-each {same = same} t f g h k (y ∷ ys) u c =
    let s = t.itself y.0 in
    let here : f y.0 (g y.0 y.1) ≡ h y.0 (k y.0 y.1) = c y.0 y.1 (simp s) in
    let rest = each-each t f g h k ys u.1 (λ i x e. c i x (found_later t y ys u.0 i x e)) in
    ap (λ v. (y.0, v) ∷ each f (each g ys)) here ∙ ap (λ l. (y.0, h y.0 (k y.0 y.1)) ∷ l) rest

-- a change that undoes another
pub each-back : {K A : Type 0} → {same : K → K → Bool} → IsTest same → (f g : K → A → A) → (xs : List (K × A)) → Distinct same xs → ((k : K) → (x : A) → find same k xs ≡ Some x → f k (g k x) ≡ x) → each f (each g xs) ≡ xs
each-back t f g xs u h = each-each t f g (λ k x. x) (λ k x. x) xs u h ∙ each-id (each (λ k x. x) xs) ∙ each-id xs

-- a change that leaves each item that is found
pub each-found : {K A : Type 0} → {same : K → K → Bool} → IsTest same → (f : K → A → A) → (xs : List (K × A)) → Distinct same xs → ((k : K) → (x : A) → find same k xs ≡ Some x → f k x ≡ x) → each f xs ≡ xs
each-found t f xs u h = ap (each f) (sym (each-id xs)) ∙ each-back t f (λ k x. x) xs u h
