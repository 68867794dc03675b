-- Where the first digit is missing, and where the first one stands.
use Rattle.std.proofs.Common.{◌≡◌, ◌≢◌, ◌∙◌, ℕ, suc, ◌+◌, ◌<◌, ◌≤◌, Bool, true, false, List, [], ◌∷◌, length, take, drop, get_or, drop-cons, Some, None, refl, ap, arith}
use Rattle.std.proofs.lemmas.List.{length-drop}
use Rattle.balise_rules.specs.Bits.{num, part}
use Rattle.balise_rules.specs.Digits.{digit_value}
use Rattle.balise_text.specs.Texts.{Text}
use Rattle.balise_fields.specs.Explaining.{digits_before, zeros_before}

pub from_here : {X : Type 0} (xs : List X) (i : ℕ) (d : X) → i < length xs → drop i xs ≡ get_or xs i d ∷ drop (i + 1) xs
from_here xs i d h = let e : suc i ≡ i + 1 = omega arith in drop-cons xs i d h ∙ ap (λ (k : ℕ). get_or xs i d ∷ drop k xs) e

pub none_from : {X : Type 0} (xs : List X) (i : ℕ) → length xs ≤ i → drop i xs ≡ []
none_from {X = X} xs i h = empty (drop i xs) (omega (arith, length-drop i xs, h))
  where
    empty : (ys : List X) → length ys ≡ 0 → ys ≡ []
    empty [] e = refl
    empty (y ∷ ys) e = absurd (omega arith)

first_bit : (b : List Bool) (x : Bool) (xs : List Bool) (i : ℕ) → drop i b ≡ x ∷ xs → num (part i 1 b) ≡ num (x ∷ [])
first_bit b x xs i e = ap (λ (r : List Bool). num (take 1 r)) e

pub one_here : (b : List Bool) (i : ℕ) → i < length b → num (part i 1 b) ≢ 0 → zeros_before (drop i b) ≡ 0
unfolding num
one_here b i h n = by (get_or b i false) (from_here b i false h)
  where
    by : (x : Bool) → drop i b ≡ x ∷ drop (i + 1) b → zeros_before (drop i b) ≡ 0
    by true e = ap zeros_before e
    by false e = absurd (n (first_bit b false (drop (i + 1) b) i e))

pub zero_here : (b : List Bool) (i : ℕ) → i < length b → num (part i 1 b) ≡ 0 → zeros_before (drop i b) ≡ 1 + zeros_before (drop (i + 1) b)
unfolding num
zero_here b i h n = by (get_or b i false) (from_here b i false h)
  where
    by : (x : Bool) → drop i b ≡ x ∷ drop (i + 1) b → zeros_before (drop i b) ≡ 1 + zeros_before (drop (i + 1) b)
    by true e = let one : num (part i 1 b) ≡ 1 = first_bit b true (drop (i + 1) b) i e in absurd (omega (arith, one, n))
    by false e = ap zeros_before e
