use Rattle.std.proofs.Common.{◌≡◌, drop}
use Rattle.balise_rules.specs.Digits.{digit_bits}
use Rattle.balise_fields.proofs.FoursRead.{onto}
use Rattle.balise_fields.proofs.fours.digits.Given as goal

abbrev pub invariant-loop-byte : goal.invariant-loop-byte
invariant-loop-byte l = digit_bits l.text ≡ onto l.bits (digit_bits (drop l.byte-index l.text))
