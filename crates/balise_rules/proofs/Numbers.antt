-- Bits and numbers give each other back: a value that fits is read as it was written, and a list of bits has one value.
use Rattle.std.proofs.Common.{◌≡◌, ℕ, zero, suc, ◌+◌, ◌*◌, ◌/◌, ◌%◌, ◌^◌, ◌<◌, Bool, true, false, eqb, List, [], ◌∷◌, ◌++◌, length, refl, sym, ap, ◌∙◌, arith, length-append}
use Rattle.std.proofs.Math.Nat.{pow-suc, mod-eq_of_lt}
use Rattle.std.proofs.lemmas.Nat.{pow-add, mod-pow-add}
use Rattle.balise_rules.specs.Bits.{bit, num, bits}

pub length-bits : (w n : ℕ) → length (bits w n) ≡ w
unfolding bits
length-bits zero n = refl
length-bits (suc w) n = ap suc (length-bits w n)

pub num_below : (b : List Bool) → num b < 2 ^ length b
unfolding num
num_below [] = omega arith
num_below (true ∷ bs) = omega (arith, num_below bs, pow-suc 2 (length bs))
num_below (false ∷ bs) = omega (arith, num_below bs, pow-suc 2 (length bs))

-- the last bit of a number
last_bit : (x : ℕ) → bit (eqb (x % 2) 1) ≡ x % 2
last_bit x = grind arith

pub num-bits : (w n : ℕ) → num (bits w n) ≡ n % 2 ^ w
unfolding num bits
num-bits zero n = omega arith
num-bits (suc w) n =
    let one : suc w ≡ 1 + w = omega arith in
    rw (length-bits w n, num-bits w n, last_bit (n / 2 ^ w)) (sym (ap (λ (k : ℕ). n % 2 ^ k) one ∙ mod-pow-add n 1 w))

-- a value that fits is read as it was written
pub num-bits_fit : (w n : ℕ) → n < 2 ^ w → num (bits w n) ≡ n
num-bits_fit w n h = num-bits w n ∙ mod-eq_of_lt h

same_heads : (a b : Bool) (xs bs : List Bool) → length xs ≡ length bs → (num xs ≡ num bs → xs ≡ bs) → num (a ∷ xs) ≡ num (b ∷ bs) → a ∷ xs ≡ b ∷ bs
unfolding num
same_heads true true xs bs k tails e = let p : 2 ^ length xs ≡ 2 ^ length bs = ap (λ (x : ℕ). 2 ^ x) k in ap (λ (x : List Bool). true ∷ x) (tails (omega (arith, e, p)))
same_heads false false xs bs k tails e = ap (λ (x : List Bool). false ∷ x) (tails (omega (arith, e)))
same_heads true false xs bs k tails e = let p : 2 ^ length xs ≡ 2 ^ length bs = ap (λ (x : ℕ). 2 ^ x) k in absurd (omega (arith, e, p, num_below bs))
same_heads false true xs bs k tails e = let p : 2 ^ length xs ≡ 2 ^ length bs = ap (λ (x : ℕ). 2 ^ x) k in absurd (omega (arith, e, p, num_below xs))

-- two lists of one length with one value are the same
pub num_injective : (a b : List Bool) → length a ≡ length b → num a ≡ num b → a ≡ b
num_injective [] [] l e = refl
num_injective [] (b ∷ bs) l e = absurd cc
num_injective (a ∷ xs) [] l e = absurd cc
num_injective (a ∷ xs) (b ∷ bs) l e = let k : length xs ≡ length bs = omega (arith, l) in same_heads a b xs bs k (num_injective xs bs k) e

pub bits-num : (b : List Bool) → bits (length b) (num b) ≡ b
bits-num b = num_injective (bits (length b) (num b)) b (length-bits (length b) (num b)) (num-bits_fit (length b) (num b) (num_below b))

pub num-append : (a b : List Bool) → num (a ++ b) ≡ num a * 2 ^ length b + num b
unfolding num
num-append [] b = omega arith
num-append (true ∷ xs) b = omega (arith, num-append xs b, pow-add 2 (length xs) (length b), ap (λ (x : ℕ). 2 ^ x) (length-append xs b))
num-append (false ∷ xs) b = omega (arith, num-append xs b)
