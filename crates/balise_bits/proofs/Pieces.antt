-- Numbers and their pieces: a number's bits in two parts, the number of a part, and a part replaced.
use Rattle.std.proofs.Common.{◌≡◌, ℕ, ◌+◌, ◌-◌, ◌*◌, ◌/◌, ◌%◌, ◌^◌, ◌<◌, ◌≤◌, Bool, List, [], ◌++◌, length, take, drop, refl, sym, ap, subst, ◌∙◌, append_assoc, arith, length-append, lit<}
use Rattle.std.proofs.Math.Nat.{pow-le-pow_right, mod-eq_of_lt, mod-mod}
use Rattle.std.proofs.lemmas.Nat.{one_shl, shr_high, mod_low, mod-pow-add}
use Rattle.std.proofs.lemmas.List.{take-append-drop, length-drop, drop-drop}
use Rattle.balise_rules.specs.Bits.{num, bits, part, put_at}
use Rattle.balise_rules.proofs.Numbers.{length-bits, num_below, num-bits, num-bits_fit, num_injective, bits-num, num-append}
use Rattle.balise_bits.proofs.Putting.{length-put_at, length-part}

-- the bits of a number are those of a list with the same number
pub same_bits : (w n : ℕ) (b : List Bool) → length b ≡ w → n % 2 ^ w ≡ num b → bits w n ≡ b
same_bits w n b l e = num_injective (bits w n) b (length-bits w n ∙ sym l) (num-bits w n ∙ e)

-- a number's bits in two parts
pub bits-split : (a b n : ℕ) → bits (a + b) n ≡ bits a (n / 2 ^ b) ++ bits b n
bits-split a b n =
    let pieces : num (bits a (n / 2 ^ b) ++ bits b n) ≡ n / 2 ^ b % 2 ^ a * 2 ^ b + n % 2 ^ b =
    num-append (bits a (n / 2 ^ b)) (bits b n) ∙ rw (length-bits b n, num-bits a (n / 2 ^ b), num-bits b n) refl in
    same_bits (a + b) n (bits a (n / 2 ^ b) ++ bits b n)
    (length-append (bits a (n / 2 ^ b)) (bits b n) ∙ omega (arith, length-bits a (n / 2 ^ b), length-bits b n))
    (mod-pow-add n a b ∙ sym pieces)

-- only the low bits of a number count
pub bits-mod : (w n : ℕ) → bits w (n % 2 ^ w) ≡ bits w n
bits-mod w n = same_bits w (n % 2 ^ w) (bits w n) (length-bits w n) (mod-mod n (2 ^ w) ∙ sym (num-bits w n))

-- a short list has a small number
pub num_small : (b : List Bool) (n : ℕ) → length b ≤ n → num b < 2 ^ n
num_small b n h = omega (arith, num_below b, pow-le-pow_right {n = 2} (lit< tt) h)

pub num_nil : num [] ≡ 0
unfolding num
num_nil = refl

-- a list in three parts
three_parts : (b : List Bool) (o w : ℕ) → b ≡ take o b ++ (take w (drop o b) ++ drop (o + w) b)
three_parts b o w =
    sym (ap (λ (x : List Bool). take o b ++ (take w (drop o b) ++ x)) (sym (drop-drop w o b)) ∙ ap (λ (x : List Bool). take o b ++ x) (take-append-drop w (drop o b)) ∙ take-append-drop o b)

-- the number of three parts, as the last part's shift leaves it and cuts it off
num-three : (a m c : List Bool) → num (a ++ (m ++ c)) ≡ (num a * 2 ^ length m + num m) * 2 ^ length c + num c
num-three a m c =
    ap num (sym (append_assoc a m c)) ∙ num-append (a ++ m) c ∙ ap (λ (x : ℕ). x * 2 ^ length c + num c) (num-append a m)

pub num-three_above : (a m c : List Bool) → num (a ++ (m ++ c)) / 2 ^ length c ≡ num a * 2 ^ length m + num m
num-three_above a m c =
    ap (λ (x : ℕ). x / 2 ^ length c) (num-three a m c) ∙ shr_high (num a * 2 ^ length m + num m) (length c) (num c) (num_below c)

-- ---- the number of a part, and its bits

pub num-part_below : (b : List Bool) (at w : ℕ) → at + w ≤ length b → num (part at w b) < 2 ^ w
num-part_below b at w h = num_small (part at w b) w (omega (arith, length-part at w b h))

pub bits-num_part : (b : List Bool) (at w : ℕ) → at + w ≤ length b → bits w (num (part at w b)) ≡ part at w b
bits-num_part b at w h =
    let p = part at w b in
    subst (λ (k : ℕ). bits k (num p) ≡ p) (length-part at w b h) (bits-num p)

-- a number as those of a part that s more bits follow, of what is above it and of what is after it
by_parts : (b : List Bool) (o w s : ℕ) → o + w + s ≡ length b → num b ≡ (num (take o b) * 2 ^ w + num (part o w b)) * 2 ^ s + num (drop (o + w) b)
by_parts b o w s e =
    let middle : length (part o w b) ≡ w = length-part o w b (omega arith) in
    let last : length (drop (o + w) b) ≡ s = omega (arith, length-drop (o + w) b) in
    ap num (three_parts b o w) ∙ num-three (take o b) (part o w b) (drop (o + w) b) ∙ rw (middle, last) refl

last_below : (b : List Bool) (o w s : ℕ) → o + w + s ≡ length b → num (drop (o + w) b) < 2 ^ s
last_below b o w s e = num_small (drop (o + w) b) s (omega (arith, length-drop (o + w) b))

num-front : (b : List Bool) (o w s : ℕ) → o + w + s ≡ length b → num b / 2 ^ s ≡ num (take o b) * 2 ^ w + num (part o w b)
num-front b o w s e = ap (λ (x : ℕ). x / 2 ^ s) (by_parts b o w s e) ∙ shr_high _ s _ (last_below b o w s e)

pub num-part : (b : List Bool) (o w s : ℕ) → o + w + s ≡ length b → num b / 2 ^ s % 2 ^ w ≡ num (part o w b)
num-part b o w s e = rw (num-front b o w s e) (mod_low (num (take o b)) w _ (num-part_below b o w (omega arith)))

-- another number in the place of a part
abbrev pub replaced : ℕ → ℕ → ℕ → ℕ → ℕ
replaced s w v n = (n / 2 ^ s / 2 ^ w * 2 ^ w + v) * 2 ^ s + n % 2 ^ s

replaced-parts : (b : List Bool) (o w s v : ℕ) → o + w + s ≡ length b → replaced s w v (num b) ≡ (num (take o b) * 2 ^ w + v) * 2 ^ s + num (drop (o + w) b)
replaced-parts b o w s v e =
    let above : num b / 2 ^ s / 2 ^ w ≡ num (take o b) = rw (num-front b o w s e) (shr_high _ w _ (num-part_below b o w (omega arith))) in
    let after : num b % 2 ^ s ≡ num (drop (o + w) b) = ap (λ (x : ℕ). x % 2 ^ s) (by_parts b o w s e) ∙ mod_low _ s _ (last_below b o w s e) in
    rw (above, after) refl

num-put_at : (b : List Bool) (o w s v : ℕ) → o + w + s ≡ length b → v < 2 ^ w → replaced s w v (num b) ≡ num (put_at o (bits w v) b)
num-put_at b o w s v e fits =
    let last : length (drop (o + w) b) ≡ s = omega (arith, length-drop (o + w) b) in
    replaced-parts b o w s v e ∙ sym (num-three (take o b) (bits w v) _ ∙ rw (length-bits w v, last, num-bits_fit w v fits) refl)

length-put : (b : List Bool) (o w s v : ℕ) → o + w + s ≡ length b → length (put_at o (bits w v) b) ≡ length b
length-put b o w s v e = length-put_at o (bits w v) b (omega (arith, length-bits w v))

pub bits-replaced : (b : List Bool) (o w s v : ℕ) → o + w + s ≡ length b → v < 2 ^ w → bits (length b) (replaced s w v (num b)) ≡ put_at o (bits w v) b
bits-replaced b o w s v e fits =
    let x = put_at o (bits w v) b in
    ap (bits (length b)) (num-put_at b o w s v e fits) ∙ ap (λ (k : ℕ). bits k (num x)) (sym (length-put b o w s v e)) ∙ bits-num x

pub replaced_below : (b : List Bool) (o w s v : ℕ) → o + w + s ≡ length b → v < 2 ^ w → replaced s w v (num b) < 2 ^ length b
replaced_below b o w s v e fits =
    let x = put_at o (bits w v) b in
    let p : 2 ^ length x ≡ 2 ^ length b = ap (λ (k : ℕ). 2 ^ k) (length-put b o w s v e) in
    omega (arith, num-put_at b o w s v e fits, num_below x, p)

-- the same in numbers of 64 bits: the part is taken off, and the other number is added
abbrev pub replaced_word : ℕ → ℕ → ℕ → ℕ → ℕ
replaced_word s w v n = n - n / 2 ^ s % (1 * 2 ^ w % 2 ^ 64) * 2 ^ s % 2 ^ 64 + v * 2 ^ s % 2 ^ 64

-- what is taken off
taken_off : (b : List Bool) (o w s : ℕ) → o + w + s ≡ length b → length b ≤ 64 → s < 64 → w < 64 → num b / 2 ^ s % (1 * 2 ^ w % 2 ^ 64) * 2 ^ s % 2 ^ 64 ≡ num (part o w b) * 2 ^ s
taken_off b o w s e small low narrow =
    rw (one_shl w 64 narrow, num-part b o w s e) (mod-eq_of_lt (omega (arith, by_parts b o w s e, num_small b 64 small)))

pub taken_off_below : (b : List Bool) (o w s : ℕ) → o + w + s ≡ length b → length b ≤ 64 → s < 64 → w < 64 → num b / 2 ^ s % (1 * 2 ^ w % 2 ^ 64) * 2 ^ s % 2 ^ 64 ≤ num b
taken_off_below b o w s e small low narrow = omega (arith, taken_off b o w s e small low narrow, by_parts b o w s e)

pub replaced-word : (b : List Bool) (o w s v : ℕ) → o + w + s ≡ length b → length b ≤ 64 → s < 64 → w < 64 → v < 2 ^ w → replaced_word s w v (num b) ≡ replaced s w v (num b)
replaced-word b o w s v e small low narrow fits =
    let whole = by_parts b o w s e in
    let other = replaced-parts b o w s v e in
    let most : 2 ^ length b ≤ 2 ^ 64 = pow-le-pow_right {n = 2} (lit< tt) small in
    let added : v * 2 ^ s % 2 ^ 64 ≡ v * 2 ^ s = mod-eq_of_lt (omega (arith, other, replaced_below b o w s v e fits, most)) in
    rw (taken_off b o w s e small low narrow, added) (omega (arith, whole, other))

-- a number of up to 32 bits fits a word of 32
pub fits_word : (n w : ℕ) → n < 2 ^ w → w ≤ 32 → n < 2 ^ 32
fits_word n w h narrow = omega (arith, h, pow-le-pow_right {n = 2} (lit< tt) narrow)
