-- A number in decimal is read back.
use Rattle.std.proofs.Common.{◌≡◌, ◌∙◌, ℕ, zero, suc, ◌<◌, ◌==◌, true, false, leb, [], ◌∷◌, length, get_or, Some, decimal, refl, arith}
use Rattle.std.proofs.lemmas.Bool.{le-leb}
use Rattle.std.proofs.lemmas.Fmt.{digits_decimal, digits_value-decimal, first_decimal, decimal_nonempty, decimal_digit}
use Rattle.std.proofs.lemmas.Str.Parse.{IsNumeralModel, numerals_by_fold}
use Rattle.std.proofs.lemmas.Grind.{common_steps}
use Rattle.balise_text.specs.Words.{Word, all_digits, value_after, value_from, most_number, number_of}
use Rattle.balise_text.specs.Laws.{IsNumber}

abbrev AreDigits : Word → Type 0
AreDigits w = all_digits w ≡ true

own : IsNumeralModel AreDigits (value_after 0)
own = numerals_by_fold AreDigits (record { empty = refl; parts = λ c cs h. grind (arith, common_steps); more = λ c cs r h. grind (arith, common_steps) }) value_after (record { empty = λ n. refl; more = λ n c cs r. refl })

pub digits_of_decimal : (n : ℕ) → IsNumber n → all_digits (decimal n) ≡ true
digits_of_decimal n h = digits_decimal own n (omega arith)

value_of_decimal : (n : ℕ) → IsNumber n → value_from 0 (decimal n) ≡ Some n
value_of_decimal n h =
    let d : all_digits (decimal n) ≡ true = digits_of_decimal n h in
    let v : value_after 0 (decimal n) ≡ n = digits_value-decimal own n (omega arith) in
    let m : leb n most_number ≡ true = le-leb _ _ h in
    rw (d, v, m) refl

-- no leading zero
shape : (w : Word) (n : ℕ) → 0 < length w → (0 < n → 48 < get_or w 0 0) → (n ≡ 0 → length w ≡ 1) → number_of w ≡ value_from 0 w
shape [] n h p z = absurd (omega arith)
shape (b ∷ []) n h p z = refl
shape (b ∷ c ∷ bs) zero h p z = absurd (let e : suc (suc (length bs)) ≡ 1 = z refl in omega arith)
shape (b ∷ c ∷ bs) (suc n) h p z = let q : (b == 48) ≡ false = grind (arith, p (omega arith)) in rw q refl

pub number_of_decimal : (n : ℕ) → IsNumber n → number_of (decimal n) ≡ Some n
number_of_decimal n h = shape (decimal n) n (decimal_nonempty n (omega arith)) (λ p. first_decimal n p (omega arith)) (λ z. rw (z, decimal_digit 0 (omega arith)) refl) ∙ value_of_decimal n h
