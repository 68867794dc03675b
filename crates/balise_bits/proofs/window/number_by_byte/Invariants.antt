use Rattle.std.proofs.Common.{◌≡◌, take}
use Rattle.balise_rules.specs.Bits.{num}
use Rattle.balise_bits.specs.Bytes.{flat}
use Rattle.balise_bits.proofs.window.number_by_byte.Given as goal

abbrev pub invariant-loop-byte : goal.invariant-loop-byte
invariant-loop-byte l = l.number ≡ num (flat (take l.byte-index l.window))
