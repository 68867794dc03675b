-- Keys of fields: a key of one variable isn't of another; and numbered fields have each key once, under a variable those from 0 on.
-- From the numbering alone: a field's number is the count of its variable among the fields before it.
-- Header and packets rest on it.
use Rattle.std.proofs.Common.{eqb, ◌≡◌, ℕ, suc, ◌+◌, ◌<◌, ◌≤◌, true, false, [], ◌∷◌, ◌++◌, Some, None, refl, sym, ap, ◌∙◌, arith}
use Rattle.std.proofs.lemmas.Bool.{and_left}
use Rattle.balise_rules.specs.declared.variable.Var.{Var}
use Rattle.balise_rules.specs.Tagged.{find, Distinct}
use Rattle.balise_rules.specs.Tags.{Key, same_var, same_key, is_of}
use Rattle.balise_rules.specs.Forms.{Fields, count_of, NumberedFrom}
use Rattle.balise_rules.proofs.Tests.{flip_no, split_on, split_keys, var_test, key_test}

pub of_is : (v : Var) → (key : Key) → is_of v key ≡ true → key ≡ (v, key.1)
of_is v key e = ap (λ (x : Var). (x, key.1)) (sym (var_test.one v key.0 e))

-- a field of one variable isn't one of another
pub other_key : (v w : Var) → (k : ℕ) → (key : Key) → same_var v w ≡ false → is_of v key ≡ true → same_key (w, k) key ≡ false
other_key v w k key n e = and_left (same_var w key.0) (eqb k key.1) (ap (same_var w) (sym (var_test.one v key.0 e)) ∙ flip_no var_test v w n)

pub not_other : (v w : Var) → (key : Key) → same_var v w ≡ false → is_of v key ≡ true → is_of w key ≡ false
not_other v w key n e = ap (same_var w) (sym (var_test.one v key.0 e)) ∙ flip_no var_test v w n

pub count-append : (v : Var) → (xs ys : Fields) → count_of v (xs ++ ys) ≡ count_of v xs + count_of v ys
count-append v [] ys = omega arith
count-append v (f ∷ fs) ys =
    let ih = count-append v fs ys in
    split_on (is_of v f.0) (λ e. simp e (omega (arith, ih))) (λ e. simp e ih)

-- a field more is counted under its own variable
pub count-more : (v : Var) → (seen : Fields) → (f : Key × ℕ) → is_of v f.0 ≡ true → count_of v (seen ++ f ∷ []) ≡ suc (count_of v seen)
count-more v seen f e = let one : count_of v (f ∷ []) ≡ 1 = simp e in omega (arith, count-append v seen (f ∷ []), one)

pub count-other : (v : Var) → (seen : Fields) → (f : Key × ℕ) → is_of v f.0 ≡ false → count_of v (seen ++ f ∷ []) ≡ count_of v seen
count-other v seen f e = let none : count_of v (f ∷ []) ≡ 0 = simp e in omega (arith, count-append v seen (f ∷ []), none)

pub count_grows : (v : Var) → (seen : Fields) → (f : Key × ℕ) → count_of v seen ≤ count_of v (seen ++ f ∷ [])
count_grows v seen f = omega (arith, count-append v seen (f ∷ []))

-- a number that was counted before doesn't come again
counted_before : (seen fs : Fields) → NumberedFrom seen fs → (v : Var) → (k : ℕ) → k < count_of v seen → find same_key (v, k) fs ≡ None
counted_before seen [] n v k h = refl
counted_before seen (f ∷ fs) n v k h =
    split_keys key_test (v, k) f.0
    (λ e q. let o : k ≡ f.0.1 = ap (λ (c : Key). c.1) q in let w : count_of v seen ≡ count_of f.0.0 seen = ap (λ (c : Key). count_of c.0 seen) q in absurd (omega (arith, n.0, o, w, h)))
    (λ e. let l : k < count_of v (seen ++ f ∷ []) = omega (arith, count_grows v seen f, h) in simp e (counted_before (seen ++ f ∷ []) fs n.1 v k l))

pub numbered_distinct : (seen fs : Fields) → NumberedFrom seen fs → Distinct same_key fs
numbered_distinct seen [] n = tt
numbered_distinct seen (f ∷ fs) n =
    let l : f.0.1 < count_of f.0.0 (seen ++ f ∷ []) = omega (arith, n.0, count-more f.0.0 seen f (var_test.itself f.0.0)) in
    (counted_before (seen ++ f ∷ []) fs n.1 f.0.0 f.0.1 l, numbered_distinct (seen ++ f ∷ []) fs n.1)

-- what is found has a number below the count
pub found_counted : (seen fs : Fields) → NumberedFrom seen fs → (v : Var) → (k n : ℕ) → find same_key (v, k) fs ≡ Some n → k < count_of v seen + count_of v fs
found_counted seen [] u v k n h = cc
found_counted seen (f ∷ fs) u v k n h =
    split_keys key_test (v, k) f.0
    (λ e q. let o : k ≡ f.0.1 = ap (λ (c : Key). c.1) q in let w : count_of v seen ≡ count_of f.0.0 seen = ap (λ (c : Key). count_of c.0 seen) q in
    let s : is_of v f.0 ≡ true = ap (same_var v) (sym (ap (λ (c : Key). c.0) q)) ∙ var_test.itself v in
    let c : count_of v (f ∷ fs) ≡ suc (count_of v fs) = simp s in omega (arith, u.0, o, w, c))
    (λ e. let g : find same_key (v, k) fs ≡ Some n = simp e at h in
    let l = found_counted (seen ++ f ∷ []) fs u.1 v k n g in
    let a = count-append v seen (f ∷ []) in
    let b = count-append v (f ∷ []) fs in
    omega (arith, l, a, b))

-- and a variable that is counted has its first field, where none was seen before
pub first_found : (seen fs : Fields) → NumberedFrom seen fs → (v : Var) → count_of v seen ≡ 0 → 0 < count_of v fs → (n : ℕ) × (find same_key (v, 0) fs ≡ Some n)
first_found seen [] u v z h = absurd (omega arith)
first_found seen (f ∷ fs) u v z h =
    split_keys var_test v f.0.0
    (λ e q. let o : f.0.1 ≡ 0 = u.0 ∙ ap (λ w. count_of w seen) (sym q) ∙ z in
    let s : same_key (v, 0) f.0 ≡ true = ap (same_key (v, 0)) (sym (ap (λ (w : Var). (w, 0)) q ∙ ap (λ (i : ℕ). (f.0.0, i)) (sym o))) ∙ key_test.itself (v, 0) in
    (f.1, simp s))
    (λ e. let c : count_of v (f ∷ fs) ≡ count_of v fs = simp e in
    let b : count_of v (f ∷ []) ≡ 0 = simp e in
    let w = first_found (seen ++ f ∷ []) fs u.1 v (omega (arith, count-append v seen (f ∷ []), b, z)) (omega (arith, c, h)) in
    let s : same_key (v, 0) f.0 ≡ false = simp e in
    (w.0, simp s w.1))
