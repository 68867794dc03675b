-- The digits of bits that are left to write, after those of a byte or of four bits.
use Rattle.std.proofs.Common.{◌≡◌, ◌∙◌, ℕ, zero, suc, ◌+◌, ◌-◌, ◌*◌, ◌/◌, ◌%◌, ◌^◌, ◌<◌, ◌≤◌, Bool, false, List, [], ◌∷◌, ◌++◌, length, take, drop, refl, sym, ap, subst, arith, append_assoc, length-append}
use Rattle.std.proofs.lemmas.List.{length-replicate, length-drop, length-take-le, drop-drop, take_all, take-append-le, drop-append-le, replicate-append-replicate}
use Rattle.balise_rules.specs.Bits.{num, part, zeros}
use Rattle.balise_rules.specs.Digits.{digit_of, digits_in, fill}
use Rattle.balise_rules.proofs.Numbers.{num-append, num_below}
use Rattle.balise_text.specs.Texts.{Text}
use Rattle.balise_text.specs.Printing.{digit_fill, filled, padded, value_at}

-- Values of bits with zeros after them.

long : (b : List Bool) (n : ℕ) → length (b ++ zeros n) ≡ length b + n
long b n = length-append b (zeros n) ∙ ap (λ (k : ℕ). length b + k) (length-replicate n false)

length_left : (b : List Bool) (n at : ℕ) → length (drop at (b ++ zeros n)) ≡ length b + n - at
length_left b n at = length-drop at (b ++ zeros n) ∙ ap (λ (k : ℕ). k - at) (long b n)

part_front : (x y : List Bool) (at w : ℕ) → at + w ≤ length x → part at w (x ++ y) ≡ part at w x
part_front x y at w h = ap (take w) (drop-append-le at x y (omega (arith, h))) ∙ take-append-le w (drop at x) y (omega (arith, h, length-drop at x))

-- the zeros that are needed make the value that any more make
same_value : (b : List Bool) (at w n : ℕ) → n ≤ w → at + w ≤ length b + n → value_at at w b ≡ num (part at w (b ++ zeros n))
same_value b at w n few h =
    let sum : n + (w - n) ≡ w = omega (arith, few) in
    let more : b ++ zeros w ≡ (b ++ zeros n) ++ zeros (w - n) = ap (λ (k : ℕ). b ++ zeros k) (sym sum) ∙ ap (λ (z : List Bool). b ++ z) (sym (replicate-append-replicate n (w - n) false)) ∙ sym (append_assoc b (zeros n) (zeros (w - n))) in
    ap (λ (x : List Bool). num (part at w x)) more ∙ ap num (part_front (b ++ zeros n) (zeros (w - n)) at w (omega (arith, h, long b n)))

pub value_within : (b : List Bool) (at w : ℕ) → at + w ≤ length b → num (part at w b) ≡ value_at at w b
value_within b at w h = ap num (sym (part_front b (zeros w) at w h))

num-zeros : (n : ℕ) → num (zeros n) ≡ 0
unfolding num
num-zeros zero = refl
num-zeros (suc n) = omega (arith, num-zeros n)

-- where fewer bits are left
pub value_at_end : (b : List Bool) (at k w : ℕ) → at + k ≡ length b → k ≤ w → num (part at k b) * 2 ^ (w - k) ≡ value_at at w b
value_at_end b at k w e h =
    let z = zeros (w - k) in
    let r = drop at b in
    let l : length r ≡ k = omega (arith, length-drop at b, e) in
    let q : length z ≡ w - k = length-replicate (w - k) false in
    let d : drop at (b ++ z) ≡ r ++ z = drop-append-le at b z (omega (arith, e)) in
    let a : take w (r ++ z) ≡ r ++ z = take_all w (r ++ z) (omega (arith, length-append r z, q, l, h)) in
    let n : num (r ++ z) ≡ num r * 2 ^ length z + num z = num-append r z in
    let m : num (part at k b) ≡ num r = ap num (take_all k r (omega (arith, l))) in
    let s : num r * 2 ^ (w - k) ≡ num r * 2 ^ length z + num z = rw (num-zeros (w - k), q) (omega arith) in
    ap (λ (x : ℕ). x * 2 ^ (w - k)) m ∙ s ∙ sym n ∙ ap num (sym (ap (take w) d ∙ a)) ∙ sym (same_value b at w (w - k) (omega arith) (omega (arith, e, h)))

pub value_below : (b : List Bool) (at w : ℕ) → at ≤ length b → value_at at w b < 2 ^ w
value_below b at w h =
    let r = drop at (b ++ zeros w) in
    let t : length (take w r) ≡ w = length-take-le w r (omega (arith, length_left b w at, h)) in
    subst (λ (k : ℕ). num (take w r) < 2 ^ k) t (num_below (take w r))

-- Digits.

abbrev four : Bool → Bool → Bool → Bool → List Bool
four a b c d = a ∷ b ∷ c ∷ d ∷ []

halves : (a b c d e f g h : Bool) → num (four a b c d ++ four e f g h) ≡ num (four a b c d) * 16 + num (four e f g h)
halves a b c d e f g h = num-append (four a b c d) (four e f g h)

high : (a b c d e f g h : Bool) → num (four a b c d ++ four e f g h) / 16 ≡ num (four a b c d)
high a b c d e f g h = omega (arith, halves a b c d e f g h, num_below (four e f g h))

low : (a b c d e f g h : Bool) → num (four a b c d ++ four e f g h) % 16 ≡ num (four e f g h)
low a b c d e f g h = omega (arith, halves a b c d e f g h, num_below (four e f g h))

-- the two digits of a byte
abbrev two_digits : ℕ → Text
two_digits n = digit_of (n / 16) ∷ digit_of (n % 16) ∷ []

first_byte : (r : List Bool) → 8 ≤ length r → digits_in r ≡ two_digits (num (take 8 r)) ++ digits_in (drop 8 r)
unfolding digits_in
first_byte (a ∷ b ∷ c ∷ d ∷ e ∷ f ∷ g ∷ h ∷ r) k = rw (high a b c d e f g h, low a b c d e f g h) refl
first_byte r k = absurd (omega arith)

first_four : (r : List Bool) → 4 ≤ length r → digits_in r ≡ digit_of (num (take 4 r)) ∷ digits_in (drop 4 r)
unfolding digits_in
first_four (a ∷ b ∷ c ∷ d ∷ r) k = refl
first_four r k = absurd (omega arith)

-- the digits that are left, where those of one byte more come
pub byte_left : (b : List Bool) (i value high low : ℕ) → 8 * i < length b → value ≡ value_at (8 * i) 8 b → high ≡ digit_of (value / 16) → low ≡ digit_of (value % 16)
    → digits_in (drop (8 * i) (padded b)) ≡ (high ∷ low ∷ []) ++ digits_in (drop (8 * (i + 1)) (padded b))
byte_left b i value high low h v e f =
    let n = fill (length b) in
    let r = drop (8 * i) (padded b) in
    let is : num (take 8 r) ≡ value = sym (v ∙ same_value b (8 * i) 8 n (omega arith) (omega (arith, h))) in
    let next : drop 8 r ≡ drop (8 * (i + 1)) (padded b) = drop-drop 8 (8 * i) (padded b) ∙ ap (λ (k : ℕ). drop k (padded b)) (omega arith) in
    first_byte r (omega (arith, length_left b n (8 * i), h))
    ∙ (rw (next, is, ← e, ← f) refl)

-- the digits that are left, where one more comes
pub four_left : (b : List Bool) (i value digit : ℕ) → 4 * i < length b → value ≡ value_at (4 * i) 4 b → digit ≡ digit_of value → digits_in (drop (4 * i) (filled b)) ≡ (digit ∷ []) ++ digits_in (drop (4 * (i + 1)) (filled b))
four_left b i value digit h v d =
    let n = digit_fill (length b) in
    let r = drop (4 * i) (filled b) in
    let is : num (take 4 r) ≡ value = sym (v ∙ same_value b (4 * i) 4 n (omega arith) (omega (arith, h))) in
    let next : drop 4 r ≡ drop (4 * (i + 1)) (filled b) = drop-drop 4 (4 * i) (filled b) ∙ ap (λ (k : ℕ). drop k (filled b)) (omega arith) in
    first_four r (omega (arith, length_left b n (4 * i), h))
    ∙ (rw (next, is, ← d) refl)

no_digits : (r : List Bool) → length r ≡ 0 → digits_in r ≡ []
unfolding digits_in
no_digits [] k = refl
no_digits (x ∷ r) k = absurd (omega arith)

-- none is left after the last
pub none_left : (b : List Bool) (n at : ℕ) → length b + n ≤ at → digits_in (drop at (b ++ zeros n)) ≡ []
none_left b n at h = no_digits (drop at (b ++ zeros n)) (omega (arith, length_left b n at, h))
