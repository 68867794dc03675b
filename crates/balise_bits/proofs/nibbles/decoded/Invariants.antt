use Rattle.std.proofs.Common.{◌≡◌, ◌*◌, take, Some}
use Rattle.std.specs.Prelude.{min}
use Rattle.balise_rules.specs.Digits.{digit_bits}
use Rattle.balise_bits.specs.Bytes.{flat}
use Rattle.balise_bits.proofs.nibbles.decoded.Given as goal

abbrev pub invariant-loop-block : goal.invariant-loop-block
invariant-loop-block l = digit_bits (take (2 * min (16 * l.block) l.count) l.text) ≡ Some (flat (take (min (16 * l.block) l.count) l.out))
