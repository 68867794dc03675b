-- The value of digits, digit by digit.
use Rattle.std.proofs.Common.{◌≡◌, ℕ, suc, ◌+◌, ◌-◌, ◌*◌, ◌<◌, ◌≤◌, Bool, true, false, cond, ◌&&◌, leb, [], ◌∷◌, length, drop, get_or, drop-cons, Some, None, refl, ap, ◌∙◌, arith}
use Rattle.std.proofs.lemmas.Bool.{lt-leb}
use Rattle.balise_text.specs.Words.{Word, is_digit, all_digits, value_after, value_from, most_number}

grows : (n : ℕ) (w : Word) → n ≤ value_after n w
grows n [] = omega arith
grows n (b ∷ bs) = omega (arith, grows (n * 10 + (b - 48)) bs)

pub value_of_digit : (n b : ℕ) (bs : Word) → is_digit b ≡ true → value_from n (b ∷ bs) ≡ value_from (n * 10 + (b - 48)) bs
value_of_digit n b bs e = simp e

pub no_digit : (n b : ℕ) (bs : Word) → is_digit b ≡ false → value_from n (b ∷ bs) ≡ None
no_digit n b bs e = simp e

either : (a : Bool) (x : ℕ) → (cond (a && false) (Some x) None) ≡ None
either true x = refl
either false x = refl

pub too_large : (n : ℕ) (w : Word) → most_number < n → value_from n w ≡ None
too_large n w h =
    let big : leb (value_after n w) most_number ≡ false = lt-leb _ _ (omega (arith, grows n w)) in
    rw big (either (all_digits w) (value_after n w))

pub next_digit : (w : Word) (i : ℕ) → i < length w → drop i w ≡ get_or w i 0 ∷ drop (i + 1) w
next_digit w i h = let e : suc i ≡ i + 1 = omega arith in drop-cons w i 0 h ∙ ap (λ (k : ℕ). get_or w i 0 ∷ drop k w) e
