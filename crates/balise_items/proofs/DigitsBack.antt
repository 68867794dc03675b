-- Bits that are printed as digits of four bits each are read back.
use Rattle.std.proofs.Common.{◌≡◌, ◌∙◌, ℕ, ◌+◌, ◌%◌, ◌==◌, ◌<◌, Bool, true, false, List, ◌∷◌, length, take, drop, Some, refl, ap, arith, eq-eqb, length-append}
use Rattle.std.proofs.lemmas.List.{drop_at, length-replicate, take_at}
use Rattle.balise_rules.specs.Bits.{zeros}
use Rattle.balise_rules.specs.Digits.{all_zero}
use Rattle.balise_fields.specs.Fours.{bits_in, first_of}
use Rattle.balise_text.specs.Printing.{digit_fill, filled, fours_of}
use Rattle.balise_text.proofs.HexDigits.{digits_back, digits_count, zeros_zero}

filled_long : (b : List Bool) → length (filled b) ≡ length b + digit_fill (length b)
filled_long b = length-append b (zeros (digit_fill (length b))) ∙ ap (λ (n : ℕ). length b + n) (length-replicate (digit_fill (length b)) false)

pub fours_back : (b : List Bool) → bits_in (length b) (fours_of b) ≡ Some b
fours_back b =
    let n = length b in
    let z = zeros (digit_fill n) in
    let whole : length (filled b) % 4 ≡ 0 = omega (arith, filled_long b) in
    let size : (length (filled b) == n + digit_fill n) ≡ true = eq-eqb (length (filled b)) (n + digit_fill n) (filled_long b) in
    let spare : all_zero (drop n (filled b)) ≡ true = ap all_zero (drop_at b z n refl) ∙ zeros_zero (digit_fill n) in
    ap (first_of n) (digits_back (filled b) whole) ∙ (let first : first_of n (Some (filled b)) ≡ Some (take n (filled b)) = rw (size, spare) refl in first) ∙ ap Some (take_at b z n refl)

-- bits have digits
pub fours_some : (x : Bool) (b : List Bool) → 0 < length (fours_of (x ∷ b))
fours_some x b =
    let whole : length (filled (x ∷ b)) % 4 ≡ 0 = omega (arith, filled_long (x ∷ b)) in
    omega (arith, digits_count (filled (x ∷ b)) whole, filled_long (x ∷ b))
