-- The flags of a call, one bit each.
use Rattle.std.specs.Prelude.{ℕ, Bool, not, ◌==◌, bit_and}
use Rattle.balise_arguments.specs.declared.options.Flags.{Flags}

-- whether this bit is set
abbrev pub has_bit : ℕ → ℕ → Bool
has_bit bits bit = not (bit_and bits bit == 0)

abbrev pub flags_of : ℕ → Flags
flags_of bits = record { quiet = has_bit bits 1; stop = has_bit bits 2; journal = has_bit bits 4; json = has_bit bits 8 }
