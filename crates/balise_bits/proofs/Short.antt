-- The bits of a number with zeros after them, and the whole bytes that they take.
use Rattle.std.proofs.Common.{◌≡◌, ℕ, zero, suc, ◌+◌, ◌-◌, ◌*◌, ◌%◌, ◌^◌, ◌<◌, ◌≤◌, Bool, false, List, [], ◌++◌, length, take, refl, sym, ap, ◌∙◌, append_assoc, arith, length-append}
use Rattle.std.proofs.Math.Nat.{mod-eq_of_lt}
use Rattle.std.proofs.lemmas.List.{take_at, take-append-le, length-replicate, replicate-append-replicate}
use Rattle.balise_rules.specs.Bits.{num, bits, zeros}
use Rattle.balise_rules.specs.Digits.{fill}
use Rattle.balise_rules.proofs.Numbers.{length-bits, num_below, num-bits_fit, bits-num, num-append}
use Rattle.balise_bits.specs.Bytes.{flat}
use Rattle.balise_bits.proofs.Flat.{length-flat, take-flat}

pub no_bits : (n : ℕ) → [] ≡ bits 0 n
unfolding bits
no_bits n = refl

num-zeros : (k : ℕ) → num (zeros k) ≡ 0
unfolding num
num-zeros zero = refl
num-zeros (suc k) = omega (arith, num-zeros k)

num-shifted : (w k n : ℕ) → n < 2 ^ w → num (bits w n ++ zeros k) ≡ n * 2 ^ k
num-shifted w k n small =
    num-append (bits w n) (zeros k) ∙ ap (λ (m : ℕ). num (bits w n) * 2 ^ m + num (zeros k)) (length-replicate k false)
    ∙ ap (λ (m : ℕ). m * 2 ^ k + num (zeros k)) (num-bits_fit w n small) ∙ omega (arith, num-zeros k)

length-shifted : (w k n : ℕ) → length (bits w n ++ zeros k) ≡ w + k
length-shifted w k n = length-append (bits w n) (zeros k) ∙ omega (arith, length-bits w n, length-replicate k false)

-- a number with zeros after its bits, in 64 bits
bits-shifted : (w k n : ℕ) → w + k ≡ 64 → n < 2 ^ w → bits 64 (n * 2 ^ k % 2 ^ 64) ≡ bits w n ++ zeros k
bits-shifted w k n all small =
    let x = bits w n ++ zeros k in
    let size : length x ≡ 64 = length-shifted w k n ∙ all in
    let same : 2 ^ length x ≡ 2 ^ 64 = ap (λ (m : ℕ). 2 ^ m) size in
    let held : n * 2 ^ k % 2 ^ 64 ≡ n * 2 ^ k = mod-eq_of_lt (omega (arith, num_below x, num-shifted w k n small, same)) in
    ap (bits 64) (held ∙ sym (num-shifted w k n small)) ∙ ap (λ (m : ℕ). bits m (num x)) (sym size) ∙ bits-num x

-- the whole bytes that hold the bits
pub flat-short : (len n : ℕ) (bytes : List ℕ) → len ≤ 57 → n < 2 ^ len → flat bytes ≡ take (len + fill len) (bits 64 (n * 2 ^ (64 - len) % 2 ^ 64)) → flat bytes ≡ bits len n ++ zeros (fill len)
flat-short len n bytes few small e =
    let f = fill len in
    let r = 64 - len - f in
    let apart : zeros (64 - len) ≡ zeros f ++ zeros r =
    ap zeros (let s : 64 - len ≡ f + r = omega arith in s) ∙ sym (replicate-append-replicate f r false) in
    e ∙ ap (take (len + f)) (bits-shifted len (64 - len) n (omega arith) small ∙ ap (λ (z : List Bool). bits len n ++ z) apart ∙ sym (append_assoc (bits len n) (zeros f) (zeros r)))
    ∙ take_at (bits len n ++ zeros f) (zeros r) (len + f) (length-shifted len f n)

-- the first bytes of a number's eight
pub flat-front : (w z : List ℕ) (x : List Bool) (k : ℕ) → k ≤ 8 → length x ≡ 64 → flat w ≡ x → flat (take k (w ++ z)) ≡ take (8 * k) x
flat-front w z x k few size e =
    let eight : length w ≡ 8 = omega (arith, length-flat w, ap length e, size) in
    ap flat (take-append-le k w z (omega (arith, eight))) ∙ sym (take-flat k w (omega (arith, eight))) ∙ ap (take (8 * k)) e
