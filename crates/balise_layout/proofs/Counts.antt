-- How often a variable stands among collected fields is one more than the number of its last occurrence.
use Rattle.std.proofs.Common.{◌≡◌, ℕ, zero, suc, ◌+◌, ◌<◌, true, List, [], ◌∷◌, ◌++◌, length, get_or, drop, refl, sym, ap, subst, ◌∙◌, arith}
use Rattle.balise_rules.specs.declared.variable.Var.{Var}
use Rattle.balise_rules.specs.Tags.{Key, same_var, is_of}
use Rattle.balise_rules.specs.Forms.{Fields, Numbered, NumberedFrom, count_of}
use Rattle.balise_rules.proofs.Tests.{split_on, var_test, equal_yes}
use Rattle.balise_rules.proofs.Keys.{count-append}
use Rattle.balise_layout.specs.Collected.{keyed, all_keyed}

-- one field moved from those to come to those before
count_of-moved : (v : Var) (seen : Fields) (f : Key × ℕ) (fs : Fields) → count_of v (seen ++ f ∷ []) + count_of v fs ≡ count_of v seen + count_of v (f ∷ fs)
count_of-moved v seen f fs = ap (λ (n : ℕ). n + count_of v fs) (count-append v seen (f ∷ [])) ∙ split_on (is_of v f.0) (λ e. rw e (omega arith)) (λ e. rw e (omega arith))

counted_last : (v : Var) (seen : Fields) (xs : List (Var × ℕ × ℕ)) (j : ℕ) (d : Var × ℕ × ℕ) → NumberedFrom seen (all_keyed xs) → j < length xs → count_of v (all_keyed (drop (suc j) xs)) ≡ 0 → v ≡ (get_or xs j d).0 → count_of v seen + count_of v (all_keyed xs) ≡ (get_or xs j d).1 + 1
counted_last v seen [] j d m h none e = absurd (omega arith)
counted_last v seen (x ∷ xs) zero d m h none e =
    let here : is_of v (keyed x).0 ≡ true = equal_yes var_test v x.0 e in
    let k : x.1 ≡ count_of v seen = m.0 ∙ ap (λ (w : Var). count_of w seen) (sym e) in
    rw (here, none) (omega (arith, k))
counted_last v seen (x ∷ xs) (suc j) d m h none e = sym (count_of-moved v seen (keyed x) (all_keyed xs)) ∙ counted_last v (seen ++ keyed x ∷ []) xs j d m.1 (omega (arith, h)) none e

-- the last occurrence is at j
pub count_of-last : (v : Var) (xs : List (Var × ℕ × ℕ)) (j : ℕ) (d : Var × ℕ × ℕ) → Numbered (all_keyed xs) → j < length xs → count_of v (all_keyed (drop (suc j) xs)) ≡ 0 → same_var (get_or xs j d).0 v ≡ true → (get_or xs j d).1 + 1 ≡ count_of v (all_keyed xs)
count_of-last v xs j d m h none e = sym (counted_last v [] xs j d m h none (sym (var_test.one (get_or xs j d).0 v e))) ∙ omega arith

numbered-push : (seen : Fields) (fs : Fields) (v : Var) (n : ℕ) → NumberedFrom seen fs → NumberedFrom seen (fs ++ ((v, count_of v seen + count_of v fs), n) ∷ [])
numbered-push seen [] v n m = (omega arith, tt)
numbered-push seen (f ∷ fs) v n m =
    let P : ℕ → Type 0 = λ k. NumberedFrom (seen ++ f ∷ []) (fs ++ ((v, k), n) ∷ []) in
    (m.0, subst P (count_of-moved v seen f fs) (numbered-push (seen ++ f ∷ []) fs v n m.1))

-- one field more, under the number of its occurrence
pub Numbered-push : (fs : Fields) (v : Var) (n : ℕ) → Numbered fs → Numbered (fs ++ ((v, count_of v fs), n) ∷ [])
Numbered-push fs v n m =
    let P : ℕ → Type 0 = λ k. Numbered (fs ++ ((v, k), n) ∷ []) in
    let one : 0 + count_of v fs ≡ count_of v fs = omega arith in
    subst P one (numbered-push [] fs v n m)

pub all_keyed-push : (xs : List (Var × ℕ × ℕ)) (v : Var) (k n : ℕ) → all_keyed (xs ++ (v, k, n) ∷ []) ≡ all_keyed xs ++ ((v, k), n) ∷ []
all_keyed-push [] v k n = refl
all_keyed-push (x ∷ xs) v k n = ap (λ (l : Fields). keyed x ∷ l) (all_keyed-push xs v k n)
