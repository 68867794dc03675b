-- Ones: the number that has no zero and ones put piece by piece.
use Rattle.std.proofs.Common.{◌≡◌, ℕ, zero, suc, ◌+◌, ◌-◌, ◌*◌, ◌/◌, ◌^◌, ◌<◌, ◌≤◌, Bool, true, List, ◌++◌, length, take, drop, replicate, refl, sym, ap, ◌∙◌, arith}
use Rattle.std.proofs.Math.Nat.{pow-suc, mod-eq_of_lt}
use Rattle.std.proofs.lemmas.Nat.{pow-add, shr_high}
use Rattle.std.proofs.lemmas.List.{take-append-drop, length-replicate, replicate-append-replicate}
use Rattle.balise_rules.specs.Bits.{num, bits, ones, put_at}
use Rattle.balise_bits.proofs.Pieces.{same_bits}
use Rattle.balise_bits.proofs.Putting.{put_at-put_at}

pub num-ones : (n : ℕ) → num (ones n) + 1 ≡ 2 ^ n
unfolding num
num-ones zero = refl
num-ones (suc n) =
    let p : 2 ^ length (replicate n true) ≡ 2 ^ n = ap (λ (k : ℕ). 2 ^ k) (length-replicate n true) in
    omega (arith, num-ones n, p, pow-suc 2 n)

-- the largest number of w bits, cut from that of 8
all_ones : (w : ℕ) → w ≤ 8 → 255 / 2 ^ (8 - w) ≡ num (ones w)
all_ones w h =
    let k = 8 - w in
    let whole : 2 ^ w * 2 ^ k ≡ 256 = sym (pow-add 2 w k) ∙ ap (λ (x : ℕ). 2 ^ x) (let e : w + k ≡ 8 = omega arith in e) in
    let low : num (ones k) < 2 ^ k = omega (arith, num-ones k) in
    let pieces : num (ones w) * 2 ^ k + num (ones k) ≡ 255 =
    let distributed : (num (ones w) + 1) * 2 ^ k ≡ 256 = ap (λ (x : ℕ). x * 2 ^ k) (num-ones w) ∙ whole in
    omega (arith, distributed, num-ones k) in
    ap (λ (x : ℕ). x / 2 ^ k) (sym pieces) ∙ shr_high (num (ones w)) k (num (ones k)) low

pub all_ones_fit : (w : ℕ) → w ≤ 8 → 255 / 2 ^ (8 - w) < 2 ^ w
all_ones_fit w h = omega (arith, all_ones w h, num-ones w)

pub bits-all_ones : (w : ℕ) → w ≤ 8 → bits w (255 / 2 ^ (8 - w)) ≡ ones w
bits-all_ones w h =
    let small = all_ones_fit w h in
    same_bits w (255 / 2 ^ (8 - w)) (ones w) (length-replicate w true) (mod-eq_of_lt small ∙ all_ones w h)

-- more ones after those that were put
put_at-ones_more : (at done w : ℕ) (b : List Bool) → at + done + w ≤ length b → put_at (at + done) (ones w) (put_at at (ones done) b) ≡ put_at at (ones (done + w)) b
put_at-ones_more at done w b h =
    let ld : length (ones done) ≡ done = length-replicate done true in
    ap (λ (k : ℕ). put_at (at + k) (ones w) (put_at at (ones done) b)) (sym ld)
    ∙ put_at-put_at at (ones done) (ones w) b (omega (arith, ld, length-replicate w true))
    ∙ ap (λ (l : List Bool). put_at at l b) (replicate-append-replicate done w true)

-- three pieces of ones, one after another
pub put_at-ones : (at n m k : ℕ) (b : List Bool) → at + (n + m + k) ≤ length b → put_at (at + (n + m)) (ones k) (put_at (at + n) (ones m) (put_at at (ones n) b)) ≡ put_at at (ones (n + m + k)) b
put_at-ones at n m k b h =
    ap (put_at (at + (n + m)) (ones k)) (put_at-ones_more at n m b (omega (arith, h))) ∙ put_at-ones_more at (n + m) k b (omega (arith, h))

-- no bits put
pub put_at-none : (at n : ℕ) (b : List Bool) → put_at at (bits 0 n) b ≡ b
unfolding bits
put_at-none at n b = ap (λ (k : ℕ). take at b ++ drop k b) (let e : at + 0 ≡ at = omega arith in e) ∙ take-append-drop at b
