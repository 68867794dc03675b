-- Digits written byte after byte: two digits each.
use Rattle.std.proofs.Common.{◌≡◌, ℕ, zero, suc, ◌+◌, ◌*◌, ◌/◌, ◌%◌, ◌<◌, List, [], ◌∷◌, length, get_or, set, refl, sym, ap, ◌∙◌, arith, inl, inr}
use Rattle.std.proofs.lemmas.Bool.{cases_eq}
use Rattle.std.proofs.lemmas.List.{ext_get_or, get_or-set_same, get_or-set_other, length-set}
use Rattle.balise_rules.specs.Digits.{digit_of, digits_in}
use Rattle.balise_bits.specs.Bytes.{flat}
use Rattle.balise_bits.proofs.Digits.{same_digit, digits_in-flat}
use Rattle.hex.specs.Hex.{encode_with, encode_lower}

-- the two digits of each of the first bytes stand
pub record Printed (bytes out : List ℕ) (k : ℕ) : Type 0 where
  pub high : (i : ℕ) → i < k → get_or out (2 * i) 0 ≡ digit_of (get_or bytes i 0 / 16)
  pub low : (i : ℕ) → i < k → get_or out (2 * i + 1) 0 ≡ digit_of (get_or bytes i 0 % 16)

pub none_printed : (bytes out : List ℕ) → Printed bytes out 0
none_printed bytes out = record { high = λ i h. absurd (omega (arith, h)); low = λ i h. absurd (omega (arith, h)) }

-- one byte more
pub printed_more : (bytes out : List ℕ) (k h l : ℕ) → 2 * k + 1 < length out → h ≡ digit_of (get_or bytes k 0 / 16) → l ≡ digit_of (get_or bytes k 0 % 16) → Printed bytes out k → Printed bytes (set (set out (2 * k) h) (2 * k + 1) l) (k + 1)
printed_more bytes out k h l room hv lv j = record { high = high; low = low }
  where
    first : List ℕ
    first = set out (2 * k) h

    size : length first ≡ length out
    size = length-set out (2 * k) h

    high : (i : ℕ) → i < k + 1 → get_or (set first (2 * k + 1) l) (2 * i) 0 ≡ digit_of (get_or bytes i 0 / 16)
    high i below = elim (cases_eq i k) [
      | inl e ↦ rw e (get_or-set_other first (2 * k + 1) (2 * k) l 0 (omega arith) ∙ get_or-set_same out (2 * k) h 0 (omega (arith, room)) ∙ hv)
      | inr ne ↦ get_or-set_other first (2 * k + 1) (2 * i) l 0 (omega (arith, ne)) ∙ get_or-set_other out (2 * k) (2 * i) h 0 (omega (arith, ne)) ∙ j.high i (omega (arith, below, ne))
    ]

    low : (i : ℕ) → i < k + 1 → get_or (set first (2 * k + 1) l) (2 * i + 1) 0 ≡ digit_of (get_or bytes i 0 % 16)
    low i below = elim (cases_eq i k) [
      | inl e ↦ rw e (get_or-set_same first (2 * k + 1) l 0 (omega (arith, room, size)) ∙ lv)
      | inr ne ↦ get_or-set_other first (2 * k + 1) (2 * i + 1) l 0 (omega (arith, ne)) ∙ get_or-set_other out (2 * k) (2 * i + 1) h 0 (omega (arith, ne)) ∙ j.low i (omega (arith, below, ne))
    ]

length-encode : (bytes : List ℕ) → length (encode_lower bytes) ≡ 2 * length bytes
unfolding encode_with
length-encode [] = refl
length-encode (b ∷ bytes) = omega (arith, length-encode bytes)

encode-high : (bytes : List ℕ) (i : ℕ) → i < length bytes → ((j : ℕ) → get_or bytes j 0 < 256) → get_or (encode_lower bytes) (2 * i) 0 ≡ digit_of (get_or bytes i 0 / 16)
unfolding encode_with
encode-high [] i h small = absurd (omega (arith, h))
encode-high (b ∷ bytes) zero h small = let byte : b < 256 = small 0 in sym (same_digit (b / 16) (omega (arith, byte)))
encode-high (b ∷ bytes) (suc i) h small =
    let place : 2 * suc i ≡ suc (suc (2 * i)) = omega arith in
    rw place (encode-high bytes i (omega (arith, h)) (λ j. small (suc j)))

encode-low : (bytes : List ℕ) (i : ℕ) → i < length bytes → ((j : ℕ) → get_or bytes j 0 < 256) → get_or (encode_lower bytes) (2 * i + 1) 0 ≡ digit_of (get_or bytes i 0 % 16)
unfolding encode_with
encode-low [] i h small = absurd (omega (arith, h))
encode-low (b ∷ bytes) zero h small = let byte : b < 256 = small 0 in sym (same_digit (b % 16) (omega arith))
encode-low (b ∷ bytes) (suc i) h small =
    let place : 2 * suc i + 1 ≡ suc (suc (2 * i + 1)) = omega arith in
    rw place (encode-low bytes i (omega (arith, h)) (λ j. small (suc j)))

-- all of them
pub all_printed : (bytes out : List ℕ) (k : ℕ) → ((j : ℕ) → get_or bytes j 0 < 256) → length out ≡ 2 * length bytes → k ≡ length bytes → Printed bytes out k → out ≡ digits_in (flat bytes)
all_printed bytes out k small size done j = ext_get_or 0 out (encode_lower bytes) (size ∙ sym (length-encode bytes)) at ∙ sym (digits_in-flat bytes small)
  where
    at : (i : ℕ) → i < length out → get_or out i 0 ≡ get_or (encode_lower bytes) i 0
    at i h = elim (cases_eq (i % 2) 0) [
      | inl even ↦
          let place : i ≡ 2 * (i / 2) = omega (arith, even) in
          let below : i / 2 < length bytes = omega (arith, h, size) in
          ap (λ (x : ℕ). get_or out x 0) place ∙ j.high (i / 2) (omega (arith, below, done)) ∙ sym (encode-high bytes (i / 2) below small) ∙ ap (λ (x : ℕ). get_or (encode_lower bytes) x 0) (sym place)
      | inr odd ↦
          let place : i ≡ 2 * (i / 2) + 1 = omega (arith, odd) in
          let below : i / 2 < length bytes = omega (arith, h, size) in
          ap (λ (x : ℕ). get_or out x 0) place ∙ j.low (i / 2) (omega (arith, below, done)) ∙ sym (encode-low bytes (i / 2) below small) ∙ ap (λ (x : ℕ). get_or (encode_lower bytes) x 0) (sym place)
    ]
