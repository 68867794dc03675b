-- Digits judged one after another, and the last byte that they are.
use Rattle.std.proofs.Common.{◌≡◌, ◌≢◌, ◌∙◌, ℕ, zero, suc, ◌+◌, ◌*◌, ◌%◌, ◌^◌, ◌<◌, ◌≤◌, ◌==◌, Bool, true, false, List, [], ◌∷◌, ◌++◌, length, drop, get_or, is_some, Option, Some, None, Result, Ok, Err, refl, sym, ap, arith, length-append, inl, inr}
use Rattle.std.proofs.lemmas.List.{drop_more, drop_all, take_all}
use Rattle.std.proofs.lemmas.Bool.{cases_lt}
use Rattle.std.proofs.lemmas.Bool.Decides.{nat_tests}
use Rattle.balise_rules.specs.declared.refusal.Refusal.{Refusal}
use Rattle.balise_rules.specs.declared.refusal.Refusal.TheVariants.{BadHex, BadLength, SpareBits}
use Rattle.balise_rules.specs.Bits.{num, bits, part}
use Rattle.balise_rules.specs.Digits.{digit_value, behind_digit, digit_bits, digits_or_bad, read_digits, fill, read_hex}
use Rattle.balise_rules.proofs.Cases.{unsome}
use Rattle.balise_rules.proofs.Numbers.{length-bits, num-bits}
use Rattle.balise_rules.proofs.Tests.{split_on}
use Rattle.balise_bits.proofs.Pieces.{num-part, num-three_above}
use Rattle.balise_bits.proofs.Spare.{read_hex-long, read_hex-spare, read_hex-read}
use Rattle.balise_text.specs.Checks.{checked, IsLastByte}
use Rattle.balise_text.specs.DigitWords.{bits_due, with_telegram}
use Rattle.balise_text.specs.Words.{Word, read_as}

pub checked_as : {A B : Type 0} (f : A → B) (r : Result A Refusal) → checked (read_as f r) ≡ checked r
checked_as f (Ok x) = refl
checked_as f (Err e) = refl

-- ---- one digit

one_front : (c : ℕ) (cs : List ℕ) → digit_bits (c ∷ cs) ≡ behind_digit (digit_value c) (digit_bits cs)
unfolding digit_bits
one_front c cs = refl

no_digits : digit_bits [] ≡ Some []
unfolding digit_bits
no_digits = refl

front : (w : Word) (i : ℕ) → i < length w → digit_bits (drop i w) ≡ behind_digit (digit_value (get_or w i 0)) (digit_bits (drop (i + 1) w))
front w i h = ap digit_bits (drop_more w i 0 h) ∙ one_front (get_or w i 0) (drop (i + 1) w)

some_behind : (n : ℕ) (r : Option (List Bool)) → is_some (behind_digit (Some n) r) ≡ is_some r
some_behind n None = refl
some_behind n (Some b) = refl

pub digit_next : (w : Word) (i n : ℕ) → i < length w → digit_value (get_or w i 0) ≡ Some n → is_some (digit_bits (drop i w)) ≡ is_some (digit_bits (drop (i + 1) w))
digit_next w i n h e = ap is_some (front w i h ∙ ap (λ o. behind_digit o (digit_bits (drop (i + 1) w))) e) ∙ some_behind n (digit_bits (drop (i + 1) w))

pub no_digit : (w : Word) (i : ℕ) → i < length w → digit_value (get_or w i 0) ≡ None → is_some (digit_bits (drop i w)) ≡ false
no_digit w i h e = ap is_some (front w i h ∙ ap (λ o. behind_digit o (digit_bits (drop (i + 1) w))) e)

pub none_left : (w : Word) (i : ℕ) → length w ≤ i → is_some (digit_bits (drop i w)) ≡ true
none_left w i h = ap (λ (l : Word). is_some (digit_bits l)) (drop_all i w h) ∙ ap is_some no_digits

pub some_bad : (w : Word) → is_some (digit_bits w) ≡ false → checked (read_digits w) ≡ Err BadHex
some_bad w h = split_on (length w % 2 == 0) (λ e. rw e (by (digit_bits w) h)) (λ e. rw e refl)
  where
    by : (o : Option (List Bool)) → is_some o ≡ false → checked (digits_or_bad o) ≡ Err BadHex
    by None h = refl
    by (Some b) h = absurd cc

pub all_good : (w : Word) → length w % 2 ≡ 0 → is_some (digit_bits w) ≡ true → checked (read_digits w) ≡ Ok tt
all_good w e h = rw e (by (digit_bits w) h)
  where
    by : (o : Option (List Bool)) → is_some o ≡ true → checked (digits_or_bad o) ≡ Ok tt
    by None h = absurd cc
    by (Some b) h = refl

-- ---- digits and their bits

behind_some : (a : Option ℕ) (r : Option (List Bool)) (b : List Bool) → behind_digit a r ≡ Some b → (n : ℕ) × ((c : List Bool) × ((r ≡ Some c) × (bits 4 n ++ c ≡ b)))
behind_some None r b e = cc e
behind_some (Some n) None b e = cc e
behind_some (Some n) (Some c) b e = (n, (c, (refl, unsome e)))

four_off : (n m : ℕ) (r : List Bool) → drop (4 * suc m) (bits 4 n ++ r) ≡ drop (4 * m) r
unfolding bits
four_off n m r =
    let e : 4 * suc m ≡ suc (suc (suc (suc (4 * m)))) = omega arith in
    ap (λ (k : ℕ). drop k (bits 4 n ++ r)) e

-- the digits from a place on, and the bits from there on
digits_from : (m : ℕ) (w : Word) (b : List Bool) → m ≤ length w → digit_bits w ≡ Some b → (digit_bits (drop m w) ≡ Some (drop (4 * m) b)) × (length b ≡ 4 * m + length (drop (4 * m) b))
digits_from zero w b h e = (e, omega arith)
digits_from (suc m) [] b h e = absurd (omega (arith, h))
digits_from (suc m) (c ∷ cs) b h e =
    let p = behind_some (digit_value c) (digit_bits cs) b (sym (one_front c cs) ∙ e) in
    let rest = digits_from m cs p.1.0 (omega (arith, h)) p.1.1.0 in
    let d : drop (4 * suc m) b ≡ drop (4 * m) p.1.0 = sym (ap (drop (4 * suc m)) p.1.1.1) ∙ four_off p.0 m p.1.0 in
    let all : length b ≡ 4 + length p.1.0 = sym (ap length p.1.1.1) ∙ length-append (bits 4 p.0) p.1.0 ∙ ap (λ (k : ℕ). k + length p.1.0) (length-bits 4 p.0) in
    (rest.0 ∙ ap Some (sym d), omega (arith, all, rest.1, ap length d))

digits_length : (w : Word) (b : List Bool) → digit_bits w ≡ Some b → length b ≡ 4 * length w
digits_length w b e =
    let p = digits_from (length w) w b (omega arith) e in
    let none : drop (4 * length w) b ≡ [] = unsome (sym p.0 ∙ ap digit_bits (drop_all (length w) w (omega arith)) ∙ no_digits) in
    omega (arith, p.1, ap length none)

-- a byte's value, as it is looked up, is this
abbrev pub IsDigit : ℕ → Option ℕ → Type 0
IsDigit v o = (v < 16 → o ≡ Some v) × (16 ≤ v → o ≡ None)

two_digits : (high low : ℕ) → num (bits 4 high ++ (bits 4 low ++ [])) ≡ high % 16 * 16 + low % 16
two_digits high low =
    let v = num-three_above (bits 4 high) (bits 4 low) [] in
    let e : num (bits 4 high) * 2 ^ length (bits 4 low) ≡ high % 16 * 16 = ap (λ (k : ℕ). num (bits 4 high) * 2 ^ k) (length-bits 4 low) ∙ ap (λ (x : ℕ). x * 16) (num-bits 4 high) in
    omega (arith, v, e, num-bits 4 low)

behind_none : (a : Option ℕ) → behind_digit a None ≡ None
behind_none None = refl
behind_none (Some n) = refl

two_values : (a c : Option ℕ) (high low : ℕ) (b : List Bool) → behind_digit a (behind_digit c (Some [])) ≡ Some b → IsDigit high a → IsDigit low c → num b ≡ high % 16 * 16 + low % 16
two_values a c high low b e h l = elim (cases_lt high 16) [
  | inr k ↦ absurd (none_first (h.1 k))
  | inl k ↦ elim (cases_lt low 16) [
    | inr j ↦ absurd (none_last (l.1 j))
    | inl j ↦ both (h.0 k) (l.0 j)
  ]
]
  where
    none_first : a ≡ None → ⊥
    none_first n = cc (sym (ap (λ x. behind_digit x (behind_digit c (Some []))) n) ∙ e)

    none_last : c ≡ None → ⊥
    none_last n = cc (sym (ap (λ x. behind_digit a (behind_digit x (Some []))) n ∙ behind_none a) ∙ e)

    both : a ≡ Some high → c ≡ Some low → num b ≡ high % 16 * 16 + low % 16
    both p q =
        let s : Some (bits 4 high ++ (bits 4 low ++ [])) ≡ Some b = sym (ap (λ x. behind_digit x (behind_digit c (Some []))) p ∙ ap (λ x. behind_digit (Some high) (behind_digit x (Some []))) q) ∙ e in
        sym (ap num (unsome s)) ∙ two_digits high low

pub last_byte_is : (w : Word) (m high low : ℕ) → length w ≡ m + 2 → IsDigit high (digit_value (get_or w m 0)) → IsDigit low (digit_value (get_or w (m + 1) 0)) → IsLastByte w (high % 16 * 16 + low % 16)
last_byte_is w m high low size h l = λ b e.
    let p = digits_from m w b (omega (arith, size)) e in
    let end : digit_bits (drop (m + 1 + 1) w) ≡ Some [] = ap digit_bits (drop_all (m + 1 + 1) w (omega (arith, size))) ∙ no_digits in
    let two : behind_digit (digit_value (get_or w m 0)) (behind_digit (digit_value (get_or w (m + 1) 0)) (Some [])) ≡ Some (drop (4 * m) b) =
    sym (front w m (omega (arith, size)) ∙ ap (behind_digit (digit_value (get_or w m 0))) (front w (m + 1) (omega (arith, size)) ∙ ap (behind_digit (digit_value (get_or w (m + 1) 0))) end)) ∙ p.0 in
    let v : num (drop (4 * m) b) ≡ high % 16 * 16 + low % 16 = two_values _ _ high low (drop (4 * m) b) two h l in
    let all : length b ≡ 4 * m + 8 + 0 = omega (arith, digits_length w b e, size) in
    let cut : part (4 * m) 8 b ≡ drop (4 * m) b = take_all 8 (drop (4 * m) b) (omega (arith, p.1, all)) in
    omega (arith, num-part b (4 * m) 8 0 (sym all), ap num cut, v)

-- ---- a telegram's digits

abbrev Bits : Type 0
Bits = Result (List Bool) Refusal

was_read : (r : Bits) → checked r ≡ Ok tt → (b : List Bool) × (r ≡ Ok b)
was_read (Ok b) h = (b, refl)
was_read (Err e) h = absurd cc

bits_read : (w : Word) (b : List Bool) → read_digits w ≡ Ok b → digit_bits w ≡ Some b
bits_read w b e = split_on (length w % 2 == 0) (λ q. by (digit_bits w) (rw q at e)) (λ q. let bad = rw q at e in absurd (cc bad))
  where
    by : (o : Option (List Bool)) → digits_or_bad o ≡ Ok b → o ≡ Some b
    by None h = cc h
    by (Some x) h = cc h

other_test : (x y : ℕ) → x ≢ y → (x == y) ≡ false
other_test x y e = grind (arith, nat_tests)

-- what a telegram of this length has in the spare bits, by its last byte
abbrev IsSpare : ℕ → ℕ → ℕ → Type 0
IsSpare n size rest = (b : List Bool) (v : ℕ) → length b ≡ 4 * size → num b % 256 ≡ v → (num (part n (fill n) b) ≡ v % rest) × (length b ≡ n + fill n)

pub long_spare : IsSpare 830 208 4
long_spare b v l e = (omega (arith, num-part b 830 2 0 (omega (arith, l)), e), omega (arith, l))

pub short_spare : IsSpare 210 54 64
short_spare b v l e = (omega (arith, num-part b 210 6 0 (omega (arith, l)), e), omega (arith, l))

pub hex_spare : (w : Word) (n size rest v : ℕ) → IsSpare n size rest → length w ≡ size → bits_due size ≡ n → IsLastByte w v → checked (read_digits w) ≡ Ok tt → v % rest ≢ 0 → checked (read_hex (bits_due (length w)) w) ≡ Err SpareBits
hex_spare w n size rest v s l due last h z =
    let r = was_read (read_digits w) h in
    let d = bits_read w r.0 r.1 in
    let k = s r.0 v (digits_length w r.0 d ∙ ap (λ (x : ℕ). 4 * x) l) (last r.0 d) in
    ap (λ (x : ℕ). checked (read_hex x w)) (ap bits_due l ∙ due) ∙ ap checked (read_hex-spare n w r.0 r.1 k.1 (λ q. z (sym k.0 ∙ q)))

pub hex_whole : (w : Word) (n size rest v : ℕ) → IsSpare n size rest → length w ≡ size → bits_due size ≡ n → IsLastByte w v → checked (read_digits w) ≡ Ok tt → v % rest ≡ 0 → checked (read_hex (bits_due (length w)) w) ≡ Ok tt
hex_whole w n size rest v s l due last h z =
    let r = was_read (read_digits w) h in
    let d = bits_read w r.0 r.1 in
    let k = s r.0 v (digits_length w r.0 d ∙ ap (λ (x : ℕ). 4 * x) l) (last r.0 d) in
    ap (λ (x : ℕ). checked (read_hex x w)) (ap bits_due l ∙ due) ∙ ap checked (read_hex-read n w r.0 r.1 k.1 (k.0 ∙ z))

pub hex_long : (w : Word) → length w ≢ 208 → length w ≢ 54 → checked (read_digits w) ≡ Ok tt → checked (read_hex (bits_due (length w)) w) ≡ Err BadLength
hex_long w l s h =
    let r = was_read (read_digits w) h in
    let d = digits_length w r.0 (bits_read w r.0 r.1) in
    let due : bits_due (length w) ≡ 210 = rw (other_test (length w) 208 l) refl in
    ap (λ (x : ℕ). checked (read_hex x w)) due ∙ ap checked (read_hex-long 210 w r.0 r.1 (λ q. s (omega (arith, d, q))))

-- ---- telegrams one after another

pub one_more : (r : Bits) (more : Result (List (List Bool)) Refusal) → checked r ≡ Ok tt → checked (with_telegram r more) ≡ checked more
one_more (Ok b) (Ok bs) h = refl
one_more (Ok b) (Err e) h = refl
one_more (Err e) more h = absurd cc

pub one_fault : (r : Bits) (more : Result (List (List Bool)) Refusal) (e : Refusal) → checked r ≡ Err e → checked (with_telegram r more) ≡ Err e
one_fault (Ok b) more e h = absurd cc
one_fault (Err x) more e h = h
