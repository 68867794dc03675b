-- Bits in bytes, eight in each, the most significant first.
use Rattle.std.specs.Prelude.{◌≡◌, ℕ, ◌+◌, ◌*◌, List, Bool, length, drop}
use Rattle.std.specs.List.{flat_map}
use Rattle.balise_rules.specs.Bits.{bits, zeros}
use Rattle.balise_rules.specs.Digits.{fill}

abbrev pub byte_bits : ℕ → List Bool
byte_bits b = bits 8 b

-- the bits of bytes, one byte after another
unfoldable pub flat : List ℕ → List Bool
flat bytes = flat_map byte_bits bytes

-- the bytes that `len` bits take, with zeros after the last bit
pub record IsPacked (len : ℕ) (bytes : List ℕ) : Type 0 where
  pub whole : 8 * length bytes ≡ len + fill len
  pub spare : drop len (flat bytes) ≡ zeros (fill len)
