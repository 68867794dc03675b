-- Why a text is refused, without what it is read as.
use Rattle.std.specs.Prelude.{◌≡◌, ℕ, ◌%◌, List, Bool, Some, Result, Ok, Err}
use Rattle.balise_rules.specs.declared.refusal.Refusal.{Refusal}
use Rattle.balise_rules.specs.Bits.{num}
use Rattle.balise_rules.specs.Digits.{digit_bits}
use Rattle.balise_text.specs.Words.{Word}

abbrev pub checked : {A : Type 0} → Result A Refusal → Result (Unit {0}) Refusal
checked (Err r) = Err r
checked (Ok x) = Ok tt

-- the number of the last byte of digits, where all of them are digits
abbrev pub IsLastByte : Word → ℕ → Type 0
IsLastByte w n = (b : List Bool) → digit_bits w ≡ Some b → num b % 256 ≡ n
