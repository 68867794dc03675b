-- Digits read block after block: the values of a block's digits, and what the parts of a text are.
use Rattle.std.proofs.Common.{◌≡◌, ℕ, zero, suc, ◌+◌, ◌*◌, ◌<◌, ◌≤◌, Bool, true, false, List, [], ◌∷◌, ◌++◌, length, take, drop, get_or, set, replicate, Option, Some, None, refl, sym, ap, ◌∙◌, append_assoc, length-append, arith, inl, inr, ◌⊎◌}
use Rattle.std.proofs.Math.Seq.{take-add}
use Rattle.std.proofs.lemmas.Bool.{cases_eq}
use Rattle.std.proofs.lemmas.Slice.{take-put_mid}
use Rattle.std.proofs.lemmas.List.{get_or-set_same, get_or-set_other, length-take, take-append-drop, take-take, take_at}
use borrow.Rule.Slice.PartMut.{put_mid}
use Rattle.balise_rules.specs.Bits.{bits}
use Rattle.balise_rules.specs.Digits.{digit_value, behind_digit, digit_bits}
use Rattle.balise_bits.specs.Bytes.{flat}
use Rattle.balise_bits.proofs.Digits.{length-digit_bits}
use Rattle.balise_bits.proofs.Flat.{flat-append, take-flat}
use Rattle.balise_bits.proofs.Judging.{prepend, prepend_none, behind_none}

-- ---- values

-- the values of the first digits of a block, and whether all of them are digits
pub record Valued (text values : List ℕ) (i : ℕ) (good : Bool) : Type 0 where
  pub value : good ≡ true → (k : ℕ) → k < i → digit_value (get_or text k 0) ≡ Some (get_or values k 0)
  pub small : good ≡ true → (k : ℕ) → k < i → get_or values k 0 < 16
  pub bad : good ≡ false → digit_bits text ≡ None

none_at : (text : List ℕ) (i : ℕ) → i < length text → digit_value (get_or text i 0) ≡ None → digit_bits text ≡ None
unfolding digit_bits
none_at [] i h e = absurd (omega (arith, h))
none_at (d ∷ ds) zero h e = ap (λ (x : Option ℕ). behind_digit x (digit_bits ds)) e
none_at (d ∷ ds) (suc i) h e = ap (behind_digit (digit_value d)) (none_at ds i (omega (arith, h)) e) ∙ behind_none (digit_value d)

pub valued_more : (text values : List ℕ) (i v : ℕ) (good now : Bool) → i < length text → i < length values → (v < 16 → digit_value (get_or text i 0) ≡ Some v) → (16 ≤ v → digit_value (get_or text i 0) ≡ None) →
    (now ≡ true → (good ≡ true) × (v < 16)) → (now ≡ false → (good ≡ false) ⊎ (16 ≤ v)) → Valued text values i good → Valued text (set values i v) (i + 1) now
valued_more text values i v good now h room some none both either j =
    record { value = value; small = small; bad = bad }
  where
    value : now ≡ true → (k : ℕ) → k < i + 1 → digit_value (get_or text k 0) ≡ Some (get_or (set values i v) k 0)
    value n k below = elim (cases_eq k i) [
      | inl e ↦ rw (e, get_or-set_same values i v 0 room) (some ((both n).1))
      | inr ne ↦ rw (get_or-set_other values i k v 0 ne) (j.value (both n).0 k (omega (arith, below, ne)))
    ]

    small : now ≡ true → (k : ℕ) → k < i + 1 → get_or (set values i v) k 0 < 16
    small n k below = elim (cases_eq k i) [
      | inl e ↦ rw (e, get_or-set_same values i v 0 room) (both n).1
      | inr ne ↦ rw (get_or-set_other values i k v 0 ne) (j.small (both n).0 k (omega (arith, below, ne)))
    ]

    bad : now ≡ false → digit_bits text ≡ None
    bad n = elim (either n) [
      | inl e ↦ j.bad e
      | inr e ↦ none_at text i h (none e)
    ]

-- ---- parts

abbrev join : Option (List Bool) → Option (List Bool) → Option (List Bool)
join None s = None
join (Some x) s = prepend x s

behind_join : (a : Option ℕ) (r s : Option (List Bool)) → behind_digit a (join r s) ≡ join (behind_digit a r) s
behind_join None r s = refl
behind_join (Some n) None s = refl
behind_join (Some n) (Some x) None = refl
behind_join (Some n) (Some x) (Some c) = ap Some (sym (append_assoc (bits 4 n) x c))

-- the bits of two texts are joined
digits_join : (a b : List ℕ) → digit_bits (a ++ b) ≡ join (digit_bits a) (digit_bits b)
unfolding digit_bits
digits_join [] b = prepend_none (digit_bits b)
digits_join (d ∷ ds) b = ap (behind_digit (digit_value d)) (digits_join ds b) ∙ behind_join (digit_value d) (digit_bits ds) (digit_bits b)

join_none : (r : Option (List Bool)) → join r None ≡ None
join_none None = refl
join_none (Some x) = refl

join_some : (r s : Option (List Bool)) (b : List Bool) → join r s ≡ Some b → (x : List Bool) × (c : List Bool) × (r ≡ Some x) × (x ++ c ≡ b)
join_some None s b e = cc e
join_some (Some x) None b e = cc e
join_some (Some x) (Some c) b e = (x, c, refl, cc e)

front_digits : (text : List ℕ) (b : List Bool) (k : ℕ) → k ≤ length text → digit_bits text ≡ Some b → digit_bits (take k text) ≡ Some (take (4 * k) b)
front_digits text b k h e =
    let s = join_some (digit_bits (take k text)) (digit_bits (drop k text)) b (sym (digits_join (take k text) (drop k text)) ∙ ap digit_bits (take-append-drop k text) ∙ e) in
    let size : length s.0 ≡ 4 * k = omega (arith, length-digit_bits (take k text) s.0 s.2, length-take k text, h) in
    s.2 ∙ ap Some (sym (take_at s.0 s.1 (4 * k) size) ∙ ap (take (4 * k)) s.3)

-- fewer bytes hold what fewer digits are
front_bytes : (text bytes : List ℕ) (at m : ℕ) → at ≤ m → m ≤ length bytes → length text ≡ 2 * length bytes → digit_bits (take (2 * m) text) ≡ Some (flat (take m bytes)) → digit_bits (take (2 * at) text) ≡ Some (flat (take at bytes))
front_bytes text bytes at m low h size e =
    let places : 4 * (2 * at) ≡ 8 * at = omega arith in
    sym (ap digit_bits (take-take (2 * at) (2 * m) text (omega (arith, low))))
    ∙ front_digits (take (2 * m) text) (flat (take m bytes)) (2 * at) (omega (arith, length-take (2 * m) text, low, h, size)) e
    ∙ ap Some (ap (λ (k : ℕ). take k (flat (take m bytes))) places ∙ take-flat at (take m bytes) (omega (arith, length-take m bytes, low, h)) ∙ ap flat (take-take at m bytes low))

-- a block more, which may begin before the bytes so far end
pub block_more : (text out win : List ℕ) (at m w k : ℕ) → at ≤ m → m ≤ length out → at ≤ length out → length text ≡ 2 * length out → length win ≡ 16 → w ≡ 32 → digit_bits (take w (drop (2 * at) text)) ≡ Some (flat win) →
    digit_bits (take (2 * m) text) ≡ Some (flat (take m out)) → digit_bits (take (2 * (at + 16)) text) ≡ Some (flat (take (at + 16) (put_mid at k out win)))
block_more text out win at m w k low h within size full wide block before =
    let places : 2 * (at + 16) ≡ 2 * at + w = omega (arith, wide) in
    ap digit_bits (ap (λ (n : ℕ). take n text) places ∙ take-add (2 * at) w text) ∙ digits_join (take (2 * at) text) (take w (drop (2 * at) text))
    ∙ ap (λ (r : Option (List Bool)). join r (digit_bits (take w (drop (2 * at) text)))) (front_bytes text out at m low h size before) ∙ ap (prepend (flat (take at out))) block
    ∙ ap Some (sym (flat-append (take at out) win) ∙ ap flat (sym (take-put_mid at k out win (at + 16) (omega (arith, full)) within)))

-- a block with a byte that is no digit
pub block_bad : (text : List ℕ) (at w : ℕ) → digit_bits (take w (drop at text)) ≡ None → digit_bits text ≡ None
block_bad text at w e =
    let rest : digit_bits (drop at text) ≡ None =
    ap digit_bits (sym (take-append-drop w (drop at text))) ∙ digits_join (take w (drop at text)) (drop w (drop at text)) ∙ ap (λ (r : Option (List Bool)). join r (digit_bits (drop w (drop at text)))) e in
    ap digit_bits (sym (take-append-drop at text)) ∙ digits_join (take at text) (drop at text) ∙ ap (join (digit_bits (take at text))) rest ∙ join_none (digit_bits (take at text))

-- ---- a block that zeros fill

zeros_bits : (k : ℕ) → (z : List Bool) × (digit_bits (replicate k 48) ≡ Some z)
unfolding digit_bits
zeros_bits zero = ([], refl)
zeros_bits (suc k) =
    let rest = zeros_bits k in
    (bits 4 0 ++ rest.0, ap (behind_digit (Some 0)) rest.1)

fill_bits : (n k : ℕ) → (z : List Bool) × (digit_bits (drop n (replicate k 48)) ≡ Some z)
unfolding digit_bits
fill_bits zero k = zeros_bits k
fill_bits (suc n) zero = ([], refl)
fill_bits (suc n) (suc k) = fill_bits n k

-- the first bytes of the block hold what the digits are
pub filled_ok : (text zeros bytes : List ℕ) (n : ℕ) → length text ≡ 2 * n → n ≤ length bytes → digit_bits (text ++ zeros) ≡ Some (flat bytes) → digit_bits text ≡ Some (flat (take n bytes))
filled_ok text zeros bytes n size h e =
    let places : 4 * (2 * n) ≡ 8 * n = omega arith in
    sym (ap digit_bits (take_at text zeros (2 * n) size)) ∙ front_digits (text ++ zeros) (flat bytes) (2 * n) (omega (arith, length-append text zeros, size)) e
    ∙ ap Some (ap (λ (k : ℕ). take k (flat bytes)) places ∙ take-flat n bytes h)

none_join : (r : Option (List Bool)) (z : List Bool) → join r (Some z) ≡ None → r ≡ None
none_join None z e = refl
none_join (Some x) z e = cc e

-- the zeros are digits, so one of the others is none
pub filled_bad : (text : List ℕ) (n k : ℕ) → digit_bits (text ++ drop n (replicate k 48)) ≡ None → digit_bits text ≡ None
filled_bad text n k e =
    let fill = fill_bits n k in
    none_join (digit_bits text) fill.0 (ap (join (digit_bits text)) (sym fill.1) ∙ sym (digits_join text (drop n (replicate k 48))) ∙ e)
