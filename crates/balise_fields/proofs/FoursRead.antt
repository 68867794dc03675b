-- Digits of four bits each, read one after another.
use Rattle.std.proofs.Common.{◌≡◌, ◌≢◌, ◌∙◌, ℕ, suc, ◌+◌, ◌*◌, ◌==◌, ◌<◌, ◌≤◌, Bool, true, false, List, [], ◌∷◌, ◌++◌, length, take, drop, get_or, drop-cons, Option, Some, None, refl, sym, ap, arith, append_assoc, eq-eqb}
use Rattle.std.proofs.lemmas.Bool.Decides.{nat_tests}
use Rattle.std.proofs.lemmas.List.{append-nil, take_all, length-drop}
use Rattle.balise_rules.specs.Bits.{bits, num, part}
use Rattle.balise_rules.specs.Digits.{all_zero, behind_digit, digit_bits, digit_value}
use Rattle.balise_bits.proofs.Digits.{length-digit_bits}
use Rattle.balise_bits.proofs.Spare.{all_zero-zero, all_zero-other}
use Rattle.balise_text.specs.Texts.{Text}
use Rattle.balise_fields.specs.Fours.{bits_in, first_of}
use Rattle.balise_text.specs.Printing.{digit_fill}

-- bits, and those that are read after them
abbrev pub onto : List Bool → Option (List Bool) → Option (List Bool)
onto b None = None
onto b (Some c) = Some (b ++ c)

at_digit : (w : Text) (i : ℕ) → i < length w → digit_bits (drop i w) ≡ behind_digit (digit_value (get_or w i 0)) (digit_bits (drop (i + 1) w))
unfolding digit_bits
at_digit w i h = let e : suc i ≡ i + 1 = omega arith in ap digit_bits (drop-cons w i 0 h) ∙ ap (λ (k : ℕ). behind_digit (digit_value (get_or w i 0)) (digit_bits (drop k w))) e

push : (b c : List Bool) (n : ℕ) (o : Option (List Bool)) → c ≡ b ++ bits 4 n → onto b (behind_digit (Some n) o) ≡ onto c o
push b c n None e = refl
push b c n (Some d) e = ap Some (sym (append_assoc b (bits 4 n) d) ∙ ap (λ (x : List Bool). x ++ d) (sym e))

-- one digit more
pub one_more : (w : Text) (i n : ℕ) (b c : List Bool) → i < length w → digit_value (get_or w i 0) ≡ Some n → c ≡ b ++ bits 4 n → digit_bits w ≡ onto b (digit_bits (drop i w)) → digit_bits w ≡ onto c (digit_bits (drop (i + 1) w))
one_more w i n b c h v e g =
    g ∙ ap (onto b) (at_digit w i h ∙ ap (λ (o : Option ℕ). behind_digit o (digit_bits (drop (i + 1) w))) v) ∙ push b c n (digit_bits (drop (i + 1) w)) e

-- no digit
pub no_digit : (w : Text) (i : ℕ) (b : List Bool) → i < length w → digit_value (get_or w i 0) ≡ None → digit_bits w ≡ onto b (digit_bits (drop i w)) → None ≡ digit_bits w
no_digit w i b h v g = sym (g ∙ ap (onto b) (at_digit w i h ∙ ap (λ (o : Option ℕ). behind_digit o (digit_bits (drop (i + 1) w))) v))

none_left : (w : Text) (i : ℕ) → length w ≤ i → digit_bits (drop i w) ≡ Some []
unfolding digit_bits
none_left w i h = none (drop i w) (omega (arith, length-drop i w, h))
  where
    none : (r : Text) → length r ≡ 0 → digit_bits r ≡ Some []
    none [] e = refl
    none (x ∷ r) e = absurd (omega arith)

pub all_read : (w : Text) (i : ℕ) (b : List Bool) → length w ≤ i → digit_bits w ≡ onto b (digit_bits (drop i w)) → Some b ≡ digit_bits w
all_read w i b h g = sym (g ∙ ap (onto b) (none_left w i h) ∙ ap Some (append-nil b))

-- ---- the first of them

other_length : (n : ℕ) (text : Text) (o : Option (List Bool)) → digit_bits text ≡ o → 4 * length text ≢ n + digit_fill n → first_of n o ≡ None
other_length n text None e h = refl
other_length n text (Some b) e h =
    let l : length b ≡ 4 * length text = length-digit_bits text b e in
    let t : (length b == n + digit_fill n) ≡ false = let k : length b ≢ n + digit_fill n = (λ q. h (sym l ∙ q)) in grind (arith, nat_tests) in
    simp t

-- another number of digits
pub bad_count : (n : ℕ) (text : Text) → 4 * length text ≢ n + digit_fill n → None ≡ bits_in n text
bad_count n text h = sym (other_length n text (digit_bits text) refl h)

pub bad_digits : (n : ℕ) (text : Text) → None ≡ digit_bits text → None ≡ bits_in n text
bad_digits n text e = ap (first_of n) e

-- the bits after the last one
spare : (n k : ℕ) (b : List Bool) → n + k ≡ length b → part n k b ≡ drop n b
spare n k b e = take_all k (drop n b) (omega (arith, e, length-drop n b))

pub spare_bits : (n k : ℕ) (text : Text) (b : List Bool) → Some b ≡ digit_bits text → length b ≡ n + digit_fill n → n + k ≡ length b → num (part n k b) ≢ 0 → None ≡ bits_in n text
spare_bits n k text b e l s z =
    let t : (length b == n + digit_fill n) ≡ true = eq-eqb (length b) (n + digit_fill n) l in
    let o : all_zero (drop n b) ≡ false = all_zero-other (drop n b) (λ q. z (ap num (spare n k b s) ∙ q)) in
    let none : None ≡ first_of n (Some b) = simp (t, o) in
    none ∙ ap (first_of n) e

pub are_read : (n k : ℕ) (text : Text) (b c : List Bool) → Some b ≡ digit_bits text → length b ≡ n + digit_fill n → n + k ≡ length b → num (part n k b) ≡ 0 → c ≡ part 0 n b → Some c ≡ bits_in n text
are_read n k text b c e l s z p =
    let t : (length b == n + digit_fill n) ≡ true = eq-eqb (length b) (n + digit_fill n) l in
    let o : all_zero (drop n b) ≡ true = all_zero-zero (drop n b) (sym (ap num (spare n k b s)) ∙ z) in
    let some : Some (take n b) ≡ first_of n (Some b) = simp (t, o) in
    ap Some p ∙ some ∙ ap (first_of n) e
