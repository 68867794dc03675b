-- Bits as hexadecimal digits: four bits a digit, whole bytes, the last one filled with zeros (this project's text).
use Rattle.std.specs.Prelude.{ℕ, ◌+◌, ◌-◌, ◌%◌, ◌==◌, ◌&&◌, nat_le, nat_lt, Bool, true, not, if◌then◌else◌, List, [], ◌∷◌, ◌++◌, length, take, drop, Option, Some, None, Result, Ok, Err}
use Rattle.balise_rules.specs.declared.refusal.Refusal.{Refusal}
use Rattle.balise_rules.specs.declared.refusal.Refusal.TheVariants.{BadHex, BadLength, SpareBits}
use Rattle.balise_rules.specs.Bits.{num, bits, zeros}

-- the value of a digit, of either case: `0` is 48, `A` 65, `a` 97
abbrev pub digit_value : ℕ → Option ℕ
digit_value c =
    if nat_le 48 c && nat_le c 57 then Some (c - 48)
    else if nat_le 65 c && nat_le c 70 then Some (c - 55)
    else if nat_le 97 c && nat_le c 102 then Some (c - 87)
    else None

-- the lower-case digit of a value below 16
abbrev pub digit_of : ℕ → ℕ
digit_of n = if nat_lt n 10 then 48 + n else 87 + n

abbrev pub behind_digit : Option ℕ → Option (List Bool) → Option (List Bool)
behind_digit None rest = None
behind_digit (Some n) None = None
behind_digit (Some n) (Some b) = Some (bits 4 n ++ b)

-- the bits of digits, or none where one isn't hexadecimal
unfoldable pub digit_bits : List ℕ → Option (List Bool)
digit_bits [] = Some []
digit_bits (c ∷ cs) = behind_digit (digit_value c) (digit_bits cs)

abbrev pub digits_or_bad : Option (List Bool) → Result (List Bool) Refusal
digits_or_bad None = Err BadHex
digits_or_bad (Some b) = Ok b

-- the bits of a word of digits: four a digit, an even number of digits
abbrev pub read_digits : List ℕ → Result (List Bool) Refusal
read_digits text = if length text % 2 == 0 then digits_or_bad (digit_bits text) else Err BadHex

-- how many bits fill the last byte
abbrev pub fill : ℕ → ℕ
fill n = (8 - n % 8) % 8

abbrev pub all_zero : List Bool → Bool
all_zero [] = true
all_zero (b ∷ bs) = not b && all_zero bs

abbrev pub first_bits : ℕ → Result (List Bool) Refusal → Result (List Bool) Refusal
first_bits n (Err r) = Err r
first_bits n (Ok b) =
    if length b == n + fill n then (if all_zero (drop n b) then Ok (take n b) else Err SpareBits) else Err BadLength

-- a text of n bits, or the first fault: a bad digit or an odd number of them, another length, a bit after the last that isn't zero
abbrev pub read_hex : ℕ → List ℕ → Result (List Bool) Refusal
read_hex n text = first_bits n (read_digits text)

-- the digits of bits in fours
unfoldable pub digits_in : List Bool → List ℕ
digits_in (a ∷ b ∷ c ∷ d ∷ rest) = digit_of (num (a ∷ b ∷ c ∷ d ∷ [])) ∷ digits_in rest
digits_in _ = []

-- the one text that is printed for bits
abbrev pub hex_of : List Bool → List ℕ
hex_of b = digits_in (b ++ zeros (fill (length b)))
