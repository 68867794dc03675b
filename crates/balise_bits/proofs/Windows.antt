-- Bytes written one after another: those of a number, and those that lie across others.
use Rattle.std.proofs.Common.{◌≡◌, ℕ, ◌+◌, ◌-◌, ◌*◌, ◌/◌, ◌%◌, ◌^◌, ◌<◌, ◌≤◌, Bool, List, [], ◌∷◌, ◌++◌, length, take, drop, get_or, set, refl, sym, ap, subst, ◌∙◌, arith}
use borrow.Rule.Slice.PartMut.{put_mid}
use Rattle.std.proofs.Math.Seq.{take-add}
use Rattle.std.proofs.lemmas.Nat.{shr-shr}
use Rattle.std.proofs.lemmas.Slice.{take-put_mid}
use Rattle.std.proofs.lemmas.List.{length-take, length-drop, drop-drop, drop_more, take_more_set, take_all}
use Rattle.balise_rules.specs.Bits.{num, bits, part}
use Rattle.balise_rules.proofs.Numbers.{length-bits, num-bits_fit, num-append}
use Rattle.balise_bits.specs.Bytes.{flat}
use Rattle.balise_bits.proofs.Pieces.{bits-split, bits-mod, bits-num_part, num-part}
use Rattle.balise_bits.proofs.Putting.{part-part}
use Rattle.balise_bits.proofs.Flat.{flat-nil, flat-cons, flat_one, flat-append, flat-part, length-flat, num-flat_more}

-- ---- the bytes of a number

-- four writes to four bytes
pub set_four : (w : List ℕ) (a b c d : ℕ) → length w ≡ 4 → set (set (set (set w 0 a) 1 b) 2 c) 3 d ≡ a ∷ b ∷ c ∷ d ∷ []
set_four [] a b c d h = absurd (omega (arith, h))
set_four (v ∷ []) a b c d h = absurd (omega (arith, h))
set_four (v ∷ w ∷ []) a b c d h = absurd (omega (arith, h))
set_four (v ∷ w ∷ x ∷ []) a b c d h = absurd (omega (arith, h))
set_four (v ∷ w ∷ x ∷ y ∷ []) a b c d h = refl
set_four (v ∷ w ∷ x ∷ y ∷ z ∷ r) a b c d h = absurd (omega (arith, h))

-- eight writes to eight bytes
pub set_eight : (w : List ℕ) (a b c d e f g h : ℕ) → length w ≡ 8 → set (set (set (set (set (set (set (set w 0 a) 1 b) 2 c) 3 d) 4 e) 5 f) 6 g) 7 h ≡ a ∷ b ∷ c ∷ d ∷ e ∷ f ∷ g ∷ h ∷ []
set_eight [] a b c d e f g h long = absurd (omega (arith, long))
set_eight (j ∷ []) a b c d e f g h long = absurd (omega (arith, long))
set_eight (j ∷ k ∷ []) a b c d e f g h long = absurd (omega (arith, long))
set_eight (j ∷ k ∷ l ∷ []) a b c d e f g h long = absurd (omega (arith, long))
set_eight (j ∷ k ∷ l ∷ m ∷ w) a b c d e f g h long = ap (λ (r : List ℕ). a ∷ b ∷ c ∷ d ∷ r) (set_four w e f g h (omega (arith, long)))

-- one write to one byte
pub set_one : (w : List ℕ) (a : ℕ) → length w ≡ 1 → set w 0 a ≡ a ∷ []
set_one [] a h = absurd (omega (arith, h))
set_one (v ∷ []) a h = refl
set_one (v ∷ x ∷ r) a h = absurd (omega (arith, h))

pub flat-one : (n : ℕ) → flat (n % 256 ∷ []) ≡ bits 8 n
flat-one n = flat_one (n % 256) ∙ bits-mod 8 n

byte_more : (m n : ℕ) (bs : List ℕ) → flat bs ≡ bits m n → flat (n / 2 ^ m % 256 ∷ bs) ≡ bits (8 + m) n
byte_more m n bs e =
    flat-cons (n / 2 ^ m % 256) bs ∙ ap (λ (x : List Bool). x ++ flat bs) (bits-mod 8 (n / 2 ^ m))
    ∙ ap (λ (x : List Bool). bits 8 (n / 2 ^ m) ++ x) e ∙ sym (bits-split 8 m n)

pub flat-four : (n : ℕ) → flat (n / 2 ^ 24 % 256 ∷ n / 2 ^ 16 % 256 ∷ n / 2 ^ 8 % 256 ∷ n % 256 ∷ []) ≡ bits 32 n
flat-four n = byte_more 24 n _ (byte_more 16 n _ (byte_more 8 n _ (flat-one n)))

pub flat-eight : (n : ℕ) → flat (n / 2 ^ 56 % 256 ∷ n / 2 ^ 48 % 256 ∷ n / 2 ^ 40 % 256 ∷ n / 2 ^ 32 % 256 ∷ n / 2 ^ 24 % 256 ∷ n / 2 ^ 16 % 256 ∷ n / 2 ^ 8 % 256 ∷ n % 256 ∷ []) ≡ bits 64 n
flat-eight n = byte_more 56 n _ (byte_more 48 n _ (byte_more 40 n _ (byte_more 32 n _ (flat-four n))))

-- no byte yet
pub flat_none : (n : ℕ) → flat [] ≡ bits 0 n
unfolding bits
flat_none n = flat-nil

-- one byte more
pub flat-take_more : (w : List ℕ) (i v : ℕ) → i < length w → flat (take (i + 1) (set w i (v % 256))) ≡ flat (take i w) ++ bits 8 v
flat-take_more w i v h =
    ap flat (take_more_set w i (v % 256) h) ∙ flat-append (take i w) (v % 256 ∷ [])
    ∙ ap (λ (x : List Bool). flat (take i w) ++ x) (flat_one (v % 256) ∙ bits-mod 8 v)

pub put_more : (w : List ℕ) (n count i : ℕ) → i < count → length w ≡ count → flat (take i w) ≡ bits (8 * i) (n / 2 ^ (8 * (count - i))) → flat (take (i + 1) (set w i (n / 2 ^ (8 * (count - 1 - i)) % 256))) ≡ bits (8 * (i + 1)) (n / 2 ^ (8 * (count - (i + 1))))
put_more w n count i h l before =
    let m = n / 2 ^ (8 * (count - 1 - i)) in
    let far : 8 * (count - 1 - i) + 8 ≡ 8 * (count - i) = omega arith in
    let front : m / 2 ^ 8 ≡ n / 2 ^ (8 * (count - i)) = shr-shr n (8 * (count - 1 - i)) 8 ∙ ap (λ (k : ℕ). n / 2 ^ k) far in
    let size : 8 * i + 8 ≡ 8 * (i + 1) = omega arith in
    let left : count - 1 - i ≡ count - (i + 1) = omega arith in
    flat-take_more w i m (omega (arith, l)) ∙ ap (λ (x : List Bool). x ++ bits 8 m) (before ∙ ap (bits (8 * i)) (sym front))
    ∙ sym (bits-split (8 * i) 8 m) ∙ ap (λ (k : ℕ). bits k m) size ∙ ap (λ (k : ℕ). bits (8 * (i + 1)) (n / 2 ^ (8 * k))) left

pub put_all : (w : List ℕ) (n count i : ℕ) → count ≡ i → length w ≡ count → flat (take i w) ≡ bits (8 * i) (n / 2 ^ (8 * (count - i))) → flat w ≡ bits (8 * count) n
put_all w n count i e l before =
    let all : take i w ≡ w = take_all i w (omega (arith, l, e)) in
    let none : count - i ≡ 0 = omega arith in
    let whole : n / 2 ^ (8 * (count - i)) ≡ n = ap (λ (k : ℕ). n / 2 ^ (8 * k)) none ∙ omega arith in
    sym (ap flat all) ∙ before ∙ ap (λ (k : ℕ). bits (8 * k) (n / 2 ^ (8 * (count - i)))) (sym e) ∙ ap (bits (8 * count)) whole

-- ---- bytes that lie across others

num-pair : (a b : ℕ) → a < 256 → b < 256 → num (flat (a ∷ b ∷ [])) ≡ a * 256 + b
num-pair a b ha hb =
    ap num (flat-cons a (b ∷ []) ∙ ap (λ (x : List Bool). bits 8 a ++ x) (flat_one b)) ∙ num-append (bits 8 a) (bits 8 b)
    ∙ rw (length-bits 8 b, num-bits_fit 8 a ha, num-bits_fit 8 b hb) refl

pair_at : (from : List ℕ) (i : ℕ) → i + 2 ≤ length from → take 2 (drop i from) ≡ get_or from i 0 ∷ get_or from (i + 1) 0 ∷ []
pair_at from i h =
    ap (take 2) (drop_more from i 0 (omega arith)) ∙ ap (λ (x : List ℕ). get_or from i 0 ∷ take 1 x) (drop_more from (i + 1) 0 (omega arith))

-- the bits of n bytes of others, n * 8 of them from a place of the first byte on
own_part : (from : List ℕ) (shift i n m : ℕ) → shift + m ≤ 8 * n → i + n ≤ length from → bits m (num (part shift m (flat (take n (drop i from))))) ≡ part (shift + 8 * i) m (flat from)
own_part from shift i n m fits held =
    let w = take n (drop i from) in
    let place : 8 * i + shift ≡ shift + 8 * i = omega arith in
    bits-num_part (flat w) shift m (omega (arith, length-flat w, length-take n (drop i from), length-drop i from))
    ∙ ap (part shift m) (flat-part i n from held) ∙ part-part shift m (8 * i) (8 * n) (flat from) (omega arith)
    ∙ ap (λ (k : ℕ). part k m (flat from)) place

-- a part goes on with the next n bytes
next_part : (f : List Bool) (shift i n : ℕ) → part shift (8 * i) f ++ part (shift + 8 * i) (8 * n) f ≡ part shift (8 * (i + n)) f
next_part f shift i n =
    let size : 8 * i + 8 * n ≡ 8 * (i + n) = omega arith in
    ap (λ (x : List Bool). part shift (8 * i) f ++ x) (ap (take (8 * n)) (sym (drop-drop (8 * i) shift f)))
    ∙ sym (take-add (8 * i) (8 * n) (drop shift f)) ∙ ap (λ (k : ℕ). part shift k f) size

across : (from : List ℕ) (shift i a b : ℕ) → shift < 8 → i + 2 ≤ length from → a ≡ get_or from i 0 → b ≡ get_or from (i + 1) 0 → a < 256 → b < 256 → bits 8 ((a * 256 + b) / 2 ^ (8 - shift)) ≡ part (shift + 8 * i) 8 (flat from)
across from shift i a b low held ea eb ha hb =
    let w = take 2 (drop i from) in
    let size : length (flat w) ≡ 16 = omega (arith, length-flat w, length-take 2 (drop i from), length-drop i from) in
    let value : num (flat w) ≡ a * 256 + b =
    ap (λ (x : List ℕ). num (flat x)) (pair_at from i held ∙ ap (λ (x : ℕ). x ∷ get_or from (i + 1) 0 ∷ []) (sym ea) ∙ ap (λ (x : ℕ). a ∷ x ∷ []) (sym eb)) ∙ num-pair a b ha hb in
    let v = num (flat w) / 2 ^ (8 - shift) in
    let number : v % 2 ^ 8 ≡ num (part shift 8 (flat w)) = num-part (flat w) shift 8 (8 - shift) (omega (arith, size)) in
    ap (λ (x : ℕ). bits 8 (x / 2 ^ (8 - shift))) (sym value) ∙ sym (bits-mod 8 v) ∙ ap (bits 8) number ∙ own_part from shift i 2 8 (omega arith) held

pub shifted_more : (out from : List ℕ) (shift i a b : ℕ) → shift < 8 → i < length out → i + 2 ≤ length from → a ≡ get_or from i 0 → b ≡ get_or from (i + 1) 0 → a < 256 → b < 256 → flat (take i out) ≡ part shift (8 * i) (flat from) → flat (take (i + 1) (set out i ((a * 256 + b) / 2 ^ (8 - shift) % 256))) ≡ part shift (8 * (i + 1)) (flat from)
shifted_more out from shift i a b low h held ea eb ha hb before =
    flat-take_more out i ((a * 256 + b) / 2 ^ (8 - shift)) h
    ∙ ap (λ (x : List Bool). x ++ bits 8 ((a * 256 + b) / 2 ^ (8 - shift))) before
    ∙ ap (λ (x : List Bool). part shift (8 * i) (flat from) ++ x) (across from shift i a b low held ea eb ha hb)
    ∙ next_part (flat from) shift i 1

-- the number of 64 bits of nine bytes
pub nine_across : (w : List ℕ) (shift a b : ℕ) → shift < 8 → length w ≡ 9 → a ≡ num (flat (take 8 w)) → b ≡ get_or w 8 0 → b < 256 → (a * 256 + b) / 2 ^ (8 - shift) % 2 ^ 64 ≡ num (part shift 64 (flat w))
nine_across w shift a b low nine ea eb hb =
    let size : length (flat w) ≡ 72 = omega (arith, length-flat w, nine) in
    let byte : get_or w 8 0 < 256 = subst (λ (n : ℕ). n < 256) eb hb in
    let value : a * 256 + b ≡ num (flat w) =
    ap (λ (n : ℕ). n * 256 + b) ea ∙ ap (λ (n : ℕ). num (flat (take 8 w)) * 256 + n) eb ∙ sym (num-flat_more w 8 (omega (arith, nine)) byte)
    ∙ ap (λ (x : List ℕ). num (flat x)) (take_all 9 w (omega (arith, nine))) in
    ap (λ (n : ℕ). n / 2 ^ (8 - shift) % 2 ^ 64) value ∙ num-part (flat w) shift 64 (8 - shift) (omega (arith, size))

-- eight bytes more
pub words_more : (out win from : List ℕ) (shift i k v : ℕ) → shift < 8 → i ≤ length out → length win ≡ 8 → i + 9 ≤ length from → flat win ≡ bits 64 v → v ≡ num (part shift 64 (flat (take 9 (drop i from)))) → flat (take i out) ≡ part shift (8 * i) (flat from) → flat (take (i + 8) (put_mid i k out win)) ≡ part shift (8 * (i + 8)) (flat from)
words_more out win from shift i k v low h eight held put value before =
    ap flat (take-put_mid i k out win (i + 8) (omega (arith, eight)) h) ∙ flat-append (take i out) win
    ∙ ap (λ (x : List Bool). x ++ flat win) before
    ∙ ap (λ (x : List Bool). part shift (8 * i) (flat from) ++ x) (put ∙ ap (bits 64) value ∙ own_part from shift i 9 64 (omega arith) held)
    ∙ next_part (flat from) shift i 8
