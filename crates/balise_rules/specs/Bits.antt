-- Bits and the numbers that they stand for, the most significant bit first (SUBSET-026, chapter 7).
use Rattle.std.specs.Prelude.{ℕ, zero, suc, ◌+◌, ◌*◌, ◌/◌, ◌%◌, ◌^◌, ◌==◌, nat_lt, Bool, true, false, List, [], ◌∷◌, length, ◌++◌, take, drop, replicate}

abbrev pub bit : Bool → ℕ
bit true = 1
bit false = 0

-- the value of a list of bits
unfoldable pub num : List Bool → ℕ
num [] = 0
num (b ∷ bs) = bit b * 2 ^ length bs + num bs

-- the list of w bits with the value n, which fits
unfoldable pub bits : ℕ → ℕ → List Bool
bits zero n = []
bits (suc w) n = (n / 2 ^ w % 2 == 1) ∷ bits w n

-- whether a value fits w bits
abbrev pub fits : ℕ → ℕ → Bool
fits w n = nat_lt n (2 ^ w)

abbrev pub ones : ℕ → List Bool
ones n = replicate n true

abbrev pub zeros : ℕ → List Bool
zeros n = replicate n false

-- n bits from a place on
abbrev pub part : ℕ → ℕ → List Bool → List Bool
part at n b = take n (drop at b)

-- the bits with others put in their place from `at` on
abbrev pub put_at : ℕ → List Bool → List Bool → List Bool
put_at at new b = take at b ++ (new ++ drop (at + length new) b)
