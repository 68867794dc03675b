use Rattle.std.proofs.Common.{◌≡◌, ◌*◌, ◌-◌, ◌/◌, ◌^◌, take}
use Rattle.balise_rules.specs.Bits.{bits}
use Rattle.balise_bits.specs.Bytes.{flat}
use Rattle.balise_bits.proofs.window.put_by_byte.Given as goal

abbrev pub invariant-loop-i : goal.invariant-loop-i
invariant-loop-i l = flat (take l.i l.window) ≡ bits (8 * l.i) (l.number / 2 ^ (8 * (l.count - l.i)))
