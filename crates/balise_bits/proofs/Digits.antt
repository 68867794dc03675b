-- Digits and bytes: how many bits digits are, and that what the encoder writes are the digits of the bits.
use Rattle.std.proofs.Common.{◌≡◌, ℕ, suc, ◌+◌, ◌*◌, ◌/◌, ◌%◌, ◌^◌, ◌<◌, Bool, true, eqb, List, [], ◌∷◌, ◌++◌, length, get_or, slice_index, Option, Some, None, Ok, refl, sym, ap, ◌∙◌, append_assoc, arith, length-append, inl, inr}
use Rattle.std.proofs.lemmas.Bool.{cases_eq, eqb-true, agree_below_at}
use Rattle.balise_rules.specs.Bits.{num, bits}
use Rattle.balise_rules.specs.Digits.{digit_value, digit_of, behind_digit, digit_bits, digits_or_bad, read_digits, digits_in}
use Rattle.balise_rules.proofs.Numbers.{length-bits, num-bits}
use Rattle.balise_bits.specs.Bytes.{flat}
use Rattle.balise_bits.proofs.Pieces.{bits-split}
use Rattle.balise_bits.proofs.Flat.{flat-nil, flat-cons}
use Rattle.hex.specs.Hex.{encode_with, encode_lower, lower_digits}

-- ---- lengths

length_behind : (a : Option ℕ) (r : Option (List Bool)) (b : List Bool) → behind_digit a r ≡ Some b → (c : List Bool) × (r ≡ Some c) × (length b ≡ 4 + length c)
length_behind None r b e = cc e
length_behind (Some n) None b e = cc e
length_behind (Some n) (Some c) b e =
    let same : bits 4 n ++ c ≡ b = cc e in
    (c, refl, ap length (sym same) ∙ length-append (bits 4 n) c ∙ ap (λ (k : ℕ). k + length c) (length-bits 4 n))

pub length-digit_bits : (text : List ℕ) (b : List Bool) → digit_bits text ≡ Some b → length b ≡ 4 * length text
unfolding digit_bits
length-digit_bits [] b e = let same : [] ≡ b = cc e in ap length (sym same)
length-digit_bits (d ∷ ds) b e =
    let rest = length_behind (digit_value d) (digit_bits ds) b e in
    omega (arith, rest.2, length-digit_bits ds rest.0 rest.1)

length_or_bad : (r : Option (List Bool)) (b : List Bool) → digits_or_bad r ≡ Ok b → r ≡ Some b
length_or_bad None b e = cc e
length_or_bad (Some c) b e = cc e

-- a word of digits is whole bytes
pub whole_bytes : (text : List ℕ) (b : List Bool) → read_digits text ≡ Ok b → length b % 8 ≡ 0
whole_bytes text b e = elim (cases_eq (length text % 2) 0) [
  | inl even ↦ let read = rw even at e in omega (arith, length-digit_bits text b (length_or_bad (digit_bits text) b read))
  | inr not_even ↦ let odd : length text % 2 ≡ 1 = omega arith in let bad = rw odd at e in cc bad
]

-- ---- printing

-- the digit of a value, as the table has it
pub same_digit : (d : ℕ) → d < 16 → digit_of d ≡ slice_index lower_digits d
same_digit d h = eqb-true _ _ (agree_below_at (λ (n : ℕ). eqb (digit_of n) (slice_index lower_digits n)) (λ _. true) 16 d refl h)

-- four bits are one digit
digits_in-four : (n : ℕ) (rest : List Bool) → digits_in (bits 4 n ++ rest) ≡ digit_of (num (bits 4 n)) ∷ digits_in rest
unfolding digits_in bits
digits_in-four n rest = refl

digits_in-digit : (n : ℕ) (rest : List Bool) → digits_in (bits 4 n ++ rest) ≡ slice_index lower_digits (n % 16) ∷ digits_in rest
digits_in-digit n rest =
    digits_in-four n rest ∙ ap (λ (x : ℕ). digit_of x ∷ digits_in rest) (num-bits 4 n)
    ∙ ap (λ (x : ℕ). x ∷ digits_in rest) (same_digit (n % 16) (omega arith))

-- the digits of the bits of bytes
pub digits_in-flat : (bytes : List ℕ) → ((i : ℕ) → get_or bytes i 0 < 256) → digits_in (flat bytes) ≡ encode_lower bytes
unfolding encode_with digits_in
digits_in-flat [] small = ap digits_in flat-nil
digits_in-flat (b ∷ bytes) small =
    let byte : b < 256 = small 0 in
    let high : b / 2 ^ 4 % 16 ≡ b / 16 = omega (arith, byte) in
    ap digits_in (flat-cons b bytes ∙ ap (λ (x : List Bool). x ++ flat bytes) (bits-split 4 4 b) ∙ append_assoc (bits 4 (b / 2 ^ 4)) (bits 4 b) (flat bytes))
    ∙ digits_in-digit (b / 2 ^ 4) (bits 4 b ++ flat bytes) ∙ ap (λ (x : ℕ). slice_index lower_digits x ∷ digits_in (bits 4 b ++ flat bytes)) high
    ∙ ap (λ (x : List ℕ). slice_index lower_digits (b / 16) ∷ x) (digits_in-digit b (flat bytes) ∙ ap (λ (x : List ℕ). slice_index lower_digits (b % 16) ∷ x) (digits_in-flat bytes (λ i. small (suc i))))
