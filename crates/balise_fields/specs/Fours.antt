-- The bits of digits of four bits each, where zeros fill up the last digit alone (this project's text).
use Rattle.std.specs.Prelude.{ℕ, ◌+◌, ◌-◌, ◌%◌, ◌==◌, ◌&&◌, Bool, if◌then◌else◌, List, ◌++◌, length, take, drop, Option, Some, None}
use Rattle.balise_rules.specs.Digits.{all_zero, digit_bits}
use Rattle.balise_text.specs.Printing.{digit_fill}
use Rattle.balise_text.specs.Texts.{Text}

-- the first n of the bits that there are, if just the digits that they need stand there and no bit after them is one
abbrev pub first_of : ℕ → Option (List Bool) → Option (List Bool)
first_of n None = None
first_of n (Some b) = if length b == n + digit_fill n && all_zero (drop n b) then Some (take n b) else None

-- the n bits of digits of either case
abbrev pub bits_in : ℕ → Text → Option (List Bool)
bits_in n text = first_of n (digit_bits text)
