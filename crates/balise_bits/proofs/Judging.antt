-- Digits read byte after byte: two digits each.
use Rattle.std.proofs.Common.{◌≡◌, ℕ, ◌+◌, ◌*◌, ◌/◌, ◌%◌, ◌^◌, ◌<◌, Bool, List, [], ◌∷◌, ◌++◌, length, take, drop, get_or, set, Option, Some, None, refl, sym, ap, ◌∙◌, append_assoc, arith}
use Rattle.std.proofs.lemmas.List.{drop_more, take_more_set, take_all, drop_all, append-nil}
use Rattle.balise_rules.specs.Bits.{bits}
use Rattle.balise_rules.specs.Digits.{digit_value, behind_digit, digit_bits}
use Rattle.balise_bits.specs.Bytes.{flat}
use Rattle.balise_bits.proofs.Pieces.{bits-split, bits-mod}
use Rattle.balise_bits.proofs.Flat.{flat-nil, flat-append, flat_one}

-- bits before those that may be there
abbrev pub prepend : List Bool → Option (List Bool) → Option (List Bool)
prepend bs None = None
prepend bs (Some c) = Some (bs ++ c)

-- the first bytes hold what the first digits are
abbrev pub Good : List ℕ → List ℕ → ℕ → Type 0
Good text out i = digit_bits text ≡ prepend (flat (take i out)) (digit_bits (drop (2 * i) text))

pub prepend_none : (r : Option (List Bool)) → r ≡ prepend [] r
prepend_none None = refl
prepend_none (Some c) = refl

-- at the start
pub none_good : (text out : List ℕ) → Good text out 0
none_good text out = prepend_none (digit_bits text) ∙ ap (λ (l : List Bool). prepend l (digit_bits text)) (sym flat-nil)

two_front : (text : List ℕ) (i : ℕ) → 2 * i + 1 < length text → drop (2 * i) text ≡ get_or text (2 * i) 0 ∷ get_or text (2 * i + 1) 0 ∷ drop (2 * (i + 1)) text
two_front text i h =
    let k : 2 * i + 1 + 1 ≡ 2 * (i + 1) = omega arith in
    drop_more text (2 * i) 0 (omega (arith, h)) ∙ ap (λ (l : List ℕ). get_or text (2 * i) 0 ∷ l) (drop_more text (2 * i + 1) 0 h ∙ ap (λ (n : ℕ). get_or text (2 * i + 1) 0 ∷ drop n text) k)

two_bits : (h l : ℕ) (rest : List ℕ) → digit_bits (h ∷ l ∷ rest) ≡ behind_digit (digit_value h) (behind_digit (digit_value l) (digit_bits rest))
unfolding digit_bits
two_bits h l rest = refl

pub behind_none : (a : Option ℕ) → behind_digit a None ≡ None
behind_none None = refl
behind_none (Some n) = refl

byte_bits-two : (a b : ℕ) → b < 16 → bits 8 (a * 16 + b) ≡ bits 4 a ++ bits 4 b
byte_bits-two a b low =
    let high : (a * 16 + b) / 2 ^ 4 ≡ a = omega (arith, low) in
    let rest : (a * 16 + b) % 2 ^ 4 ≡ b = omega (arith, low) in
    bits-split 4 4 (a * 16 + b) ∙ ap (λ (x : ℕ). bits 4 x ++ bits 4 (a * 16 + b)) high ∙ ap (λ (x : List Bool). bits 4 a ++ x) (sym (bits-mod 4 (a * 16 + b)) ∙ ap (bits 4) rest)

prepend_two : (f : List Bool) (a b : ℕ) (r : Option (List Bool)) → prepend f (behind_digit (Some a) (behind_digit (Some b) r)) ≡ prepend (f ++ (bits 4 a ++ bits 4 b)) r
prepend_two f a b None = refl
prepend_two f a b (Some c) = ap Some (sym (append_assoc f (bits 4 a ++ bits 4 b) c ∙ ap (λ (x : List Bool). f ++ x) (append_assoc (bits 4 a) (bits 4 b) c)))

-- two good digits make one more good byte
pub good_byte : (text out : List ℕ) (i high low v : ℕ) → i < length out → length text ≡ 2 * length out → digit_value (get_or text (2 * i) 0) ≡ Some high → digit_value (get_or text (2 * i + 1) 0) ≡ Some low → low < 16 →
    v ≡ high * 16 + low → Good text out i → Good text (set out i v) (i + 1)
good_byte text out i high low v h size hv lv small e j =
    let first = get_or text (2 * i) 0 in
    let second = get_or text (2 * i + 1) 0 in
    let rest = digit_bits (drop (2 * (i + 1)) text) in
    let read : digit_bits (drop (2 * i) text) ≡ behind_digit (digit_value first) (behind_digit (digit_value second) rest) =
    ap digit_bits (two_front text i (omega (arith, h, size))) ∙ two_bits first second (drop (2 * (i + 1)) text) in
    let values : digit_bits (drop (2 * i) text) ≡ behind_digit (Some high) (behind_digit (Some low) rest) =
    read ∙ ap (λ (x : Option ℕ). behind_digit x (behind_digit (digit_value second) rest)) hv ∙ ap (λ (x : Option ℕ). behind_digit (Some high) (behind_digit x rest)) lv in
    let more : flat (take (i + 1) (set out i v)) ≡ flat (take i out) ++ (bits 4 high ++ bits 4 low) =
    ap flat (take_more_set out i v h) ∙ flat-append (take i out) (v ∷ []) ∙ ap (λ (x : List Bool). flat (take i out) ++ x) (flat_one v ∙ ap (bits 8) e ∙ byte_bits-two high low small) in
    j ∙ ap (prepend (flat (take i out))) values ∙ prepend_two (flat (take i out)) high low rest ∙ ap (λ (x : List Bool). prepend x rest) (sym more)

pub empty_bits : digit_bits [] ≡ Some []
unfolding digit_bits
empty_bits = refl

-- all bytes are good
pub good_bytes : (text out : List ℕ) (i : ℕ) → Good text out i → i ≡ length out → length text ≡ 2 * length out → digit_bits text ≡ Some (flat out)
good_bytes text out i j e size =
    j ∙ ap (λ (l : List ℕ). prepend (flat (take i out)) (digit_bits l)) (drop_all (2 * i) text (omega (arith, e, size))) ∙ ap (prepend (flat (take i out))) empty_bits
    ∙ ap Some (append-nil (flat (take i out)) ∙ ap flat (take_all i out (omega (arith, e))))
