-- The bits after the last one: when they are zero, and what a text is read as then.
use Rattle.std.proofs.Common.{◌≡◌, ◌≢◌, ℕ, ◌+◌, ◌*◌, ◌%◌, ◌==◌, Bool, true, false, List, [], ◌∷◌, length, take, drop, Ok, Err, refl, sym, ap, ◌∙◌, arith, eq-eqb}
use Rattle.std.proofs.lemmas.Bool.Decides.{nat_tests}
use Rattle.std.proofs.lemmas.Nat.{pow_pos}
use Rattle.std.proofs.lemmas.List.{take_all, length-drop}
use Rattle.balise_rules.specs.declared.refusal.Refusal.TheVariants.{BadLength, SpareBits}
use Rattle.balise_rules.specs.Bits.{num, part, zeros}
use Rattle.balise_bits.specs.Bytes.{flat, IsPacked}
use Rattle.balise_bits.proofs.Packing.{length-view, view-whole}
use Rattle.balise_rules.specs.Digits.{fill, all_zero, first_bits, read_digits, read_hex}

pub all_zero-zero : (b : List Bool) → num b ≡ 0 → all_zero b ≡ true
unfolding num
all_zero-zero [] e = refl
all_zero-zero (true ∷ bs) e = absurd (omega (arith, e, pow_pos (length bs)))
all_zero-zero (false ∷ bs) e = all_zero-zero bs (omega (arith, e))

pub all_zero-other : (b : List Bool) → num b ≢ 0 → all_zero b ≡ false
unfolding num
all_zero-other [] e = absurd (e refl)
all_zero-other (true ∷ bs) e = refl
all_zero-other (false ∷ bs) e = all_zero-other bs (λ z. e (omega (arith, z)))

pub zeros_from_num : (b : List Bool) → num b ≡ 0 → b ≡ zeros (length b)
unfolding num
zeros_from_num [] e = refl
zeros_from_num (true ∷ bs) e = absurd (omega (arith, e, pow_pos (length bs)))
zeros_from_num (false ∷ bs) e = ap (λ (x : List Bool). false ∷ x) (zeros_from_num bs (omega (arith, e)))

-- what is after the last bit
pub part_behind : (n : ℕ) (b : List Bool) → length b ≡ n + fill n → part n (fill n) b ≡ drop n b
part_behind n b e = take_all (fill n) (drop n b) (omega (arith, e, length-drop n b))

long_test : (x y : ℕ) → x ≢ y → (x == y) ≡ false
long_test x y e = grind (arith, nat_tests)

-- ---- a text, once its digits are read

pub read_hex-long : (n : ℕ) (text : List ℕ) (b : List Bool) → read_digits text ≡ Ok b → length b ≢ n + fill n → read_hex n text ≡ Err BadLength
read_hex-long n text b r e = ap (first_bits n) r ∙ rw (long_test (length b) (n + fill n) e) refl

pub read_hex-spare : (n : ℕ) (text : List ℕ) (b : List Bool) → read_digits text ≡ Ok b → length b ≡ n + fill n → num (part n (fill n) b) ≢ 0 → read_hex n text ≡ Err SpareBits
read_hex-spare n text b r e z =
    let other : all_zero (drop n b) ≡ false = all_zero-other (drop n b) (λ q. z (ap num (part_behind n b e) ∙ q)) in
    ap (first_bits n) r ∙ rw (eq-eqb (length b) (n + fill n) e, other) refl

pub read_hex-read : (n : ℕ) (text : List ℕ) (b : List Bool) → read_digits text ≡ Ok b → length b ≡ n + fill n → num (part n (fill n) b) ≡ 0 → read_hex n text ≡ Ok (take n b)
read_hex-read n text b r e z =
    let none : all_zero (drop n b) ≡ true = all_zero-zero (drop n b) (sym (ap num (part_behind n b e)) ∙ z) in
    ap (first_bits n) r ∙ rw (eq-eqb (length b) (n + fill n) e, none) refl

-- ---- packed bytes of which the last bits are left off

pub whole_len : (m : ℕ) (bytes : List ℕ) (b : List Bool) → IsPacked m bytes → take m (flat bytes) ≡ b → length b % 8 ≡ 0 → (length b ≡ m) × (m ≡ 8 * length bytes)
whole_len m bytes b p view eights =
    let size : length b ≡ m = sym (ap length view) ∙ length-view m bytes p in
    (size, omega (arith, size, eights, p.whole))

pub packed_cut : (len m : ℕ) (bytes : List ℕ) (b : List Bool) → IsPacked m bytes → take m (flat bytes) ≡ b → m ≡ len + fill len → num (part len (fill len) b) ≡ 0 → IsPacked len bytes
packed_cut len m bytes b p view e z =
    let size : length b ≡ len + fill len = sym (ap length view) ∙ length-view m bytes p ∙ e in
    let all : flat bytes ≡ b = sym (view-whole m bytes (omega (arith, e, p.whole))) ∙ view in
    let none : num (drop len b) ≡ 0 = sym (ap num (part_behind len b size)) ∙ z in
    record {
      whole = omega (arith, e, p.whole);
      spare = ap (drop len) all ∙ zeros_from_num (drop len b) none ∙ ap zeros (omega (arith, size, length-drop len b));
    }

pub view-cut : (len m : ℕ) (bytes : List ℕ) (b : List Bool) → IsPacked m bytes → take m (flat bytes) ≡ b → m ≡ len + fill len → take len (flat bytes) ≡ take len b
view-cut len m bytes b p view e = ap (take len) (sym (view-whole m bytes (omega (arith, e, p.whole))) ∙ view)
