-- Digits that were printed for bits are read back.
use Rattle.std.proofs.Common.{◌≡◌, ◌∙◌, ℕ, zero, suc, ◌+◌, ◌*◌, ◌%◌, ◌≤◌, ◌<◌, ◌==◌, Bool, true, false, List, [], ◌∷◌, ◌++◌, length, drop, Option, Some, Result, Ok, refl, ap, arith, length-append}
use Rattle.std.specs.Prelude.{nat_le, nat_lt}
use Rattle.std.proofs.lemmas.Bool.{le-leb, ltb-false, ltb-true}
use Rattle.std.proofs.lemmas.Bool.Decides.{nat_tests}
use Rattle.std.proofs.lemmas.List.{append-nil, drop_at, length-replicate, take_at}
use Rattle.std.proofs.lemmas.Grind.{common_steps}
use Rattle.balise_rules.specs.declared.refusal.Refusal.{Refusal}
use Rattle.balise_rules.specs.Bits.{num, bits, zeros}
use Rattle.balise_rules.specs.Digits.{digit_value, digit_of, behind_digit, digit_bits, read_digits, fill, all_zero, read_hex, digits_in, hex_of}
use Rattle.balise_rules.proofs.Numbers.{bits-num, num_below}
use Rattle.balise_rules.proofs.Tests.{split_on}
use Rattle.balise_text.specs.Words.{Word}
use Rattle.balise_text.proofs.High.{is_high}

-- a digit's value
value_back : (n : ℕ) → n < 16 → digit_value (digit_of n) ≡ Some n
value_back n h = split_on (nat_lt n 10)
    (λ e.
    let small : n < 10 = ltb-true n 10 e in
    let a : nat_le 48 (48 + n) ≡ true = grind (arith, nat_tests) in
    let b : nat_le (48 + n) 57 ≡ true = grind (arith, nat_tests) in
    rw (e, a, b) (ap Some (omega arith)))
    (λ e.
    let large : 10 ≤ n = ltb-false n 10 e in
    let a : nat_le 48 (87 + n) ≡ true = grind (arith, nat_tests) in
    let b : nat_le (87 + n) 57 ≡ false = grind (arith, nat_tests) in
    let c : nat_le 65 (87 + n) ≡ true = grind (arith, nat_tests) in
    let d : nat_le (87 + n) 70 ≡ false = grind (arith, nat_tests) in
    let g : nat_le 97 (87 + n) ≡ true = grind (arith, nat_tests) in
    let i : nat_le (87 + n) 102 ≡ true = grind (arith, nat_tests) in
    rw (e, a, b, c, d, g, i) (ap Some (omega arith)))

one_back : (a b c d : Bool) (o : Option (List Bool)) (rest : List Bool) → o ≡ Some rest → behind_digit (digit_value (digit_of (num (a ∷ b ∷ c ∷ d ∷ [])))) o ≡ Some (a ∷ b ∷ c ∷ d ∷ rest)
one_back a b c d o rest e =
    let four = a ∷ b ∷ c ∷ d ∷ [] in
    let back : bits 4 (num four) ≡ four = bits-num four in
    ap (λ (v : Option ℕ). behind_digit v o) (value_back (num four) (num_below four)) ∙ ap (behind_digit (Some (num four))) e ∙ ap (λ (x : List Bool). Some (x ++ rest)) back

-- the digits of whole fours are read back
pub digits_back : (b : List Bool) → length b % 4 ≡ 0 → digit_bits (digits_in b) ≡ Some b
unfolding digit_bits digits_in
digits_back [] h = refl
digits_back (a ∷ b ∷ c ∷ d ∷ rest) h = one_back a b c d (digit_bits (digits_in rest)) rest (digits_back rest (omega (arith, h)))
digits_back b h = absurd (omega arith)

at_least : (n : ℕ) → 36 ≤ digit_of n
at_least n = split_on (nat_lt n 10) (λ e. rw e (omega arith)) (λ e. rw e (omega arith))

high_digit : (n : ℕ) (w : Word) → is_high w ≡ true → is_high (digit_of n ∷ w) ≡ true
high_digit n w h = rw (le-leb 36 (digit_of n) (at_least n), h) refl

pub digits_high : (b : List Bool) → is_high (digits_in b) ≡ true
unfolding digits_in
digits_high (a ∷ b ∷ c ∷ d ∷ rest) = high_digit (num (a ∷ b ∷ c ∷ d ∷ [])) (digits_in rest) (digits_high rest)
digits_high b = refl

pub digits_count : (b : List Bool) → length b % 4 ≡ 0 → 4 * length (digits_in b) ≡ length b
unfolding digits_in
digits_count [] h = refl
digits_count (a ∷ b ∷ c ∷ d ∷ rest) h = let e = digits_count rest (omega (arith, h)) in omega (arith, e)
digits_count b h = absurd (omega arith)

filled : (b : List Bool) → length (b ++ zeros (fill (length b))) ≡ length b + fill (length b)
filled b = length-append b (zeros (fill (length b))) ∙ ap (λ (n : ℕ). length b + n) (length-replicate (fill (length b)) false)

whole : (n : ℕ) → (n + fill n) % 8 ≡ 0
whole n = omega arith

pub hex_count : (b : List Bool) → 4 * length (hex_of b) ≡ length b + fill (length b)
hex_count b = digits_count (b ++ zeros (fill (length b))) (omega (arith, filled b, whole (length b))) ∙ filled b

even_digits : (b : List Bool) → (length (hex_of b) % 2) ≡ 0
even_digits b = omega (arith, hex_count b, whole (length b))

pub hex_read : (b : List Bool) → read_digits (hex_of b) ≡ Ok (b ++ zeros (fill (length b)))
hex_read b =
    let e : (length (hex_of b) % 2 == 0) ≡ true = rw (even_digits b) refl in
    let d : digit_bits (hex_of b) ≡ Some (b ++ zeros (fill (length b))) = digits_back (b ++ zeros (fill (length b))) (omega (arith, filled b, whole (length b))) in
    rw (e, d) refl

abbrev ok : List Bool → Result (List Bool) Refusal
ok b = Ok b

-- whole bytes
pub bytes_read : (b : List Bool) → length b % 8 ≡ 0 → read_digits (hex_of b) ≡ Ok b
bytes_read b h = let z : fill (length b) ≡ 0 = omega (arith, h) in hex_read b ∙ ap (λ (n : ℕ). ok (b ++ zeros n)) z ∙ ap ok (append-nil b)

pub zeros_zero : (n : ℕ) → all_zero (zeros n) ≡ true
zeros_zero zero = refl
zeros_zero (suc n) = zeros_zero n

-- the bits that are due are read
pub due_read : (b : List Bool) → read_hex (length b) (hex_of b) ≡ Ok b
due_read b =
    let z = zeros (fill (length b)) in
    let e : (length (b ++ z) == length b + fill (length b)) ≡ true = rw (filled b) (same (length b + fill (length b))) in
    let d : all_zero (drop (length b) (b ++ z)) ≡ true = ap all_zero (drop_at b z (length b) refl) ∙ zeros_zero (fill (length b)) in
    rw (hex_read b, e, d, take_at b z (length b) refl) refl
  where
    same : (n : ℕ) → (n == n) ≡ true
    same n = grind (arith, common_steps)
