use Rattle.std.proofs.Common.{◌≡◌, drop, is_some}
use Rattle.balise_rules.specs.Digits.{digit_bits}
use Rattle.balise_text.proofs.digit_checks.check_digits.Given as goal

abbrev pub invariant-loop-byte : goal.invariant-loop-byte
invariant-loop-byte l = is_some (digit_bits (drop l.byte-index l.word)) ≡ is_some (digit_bits l.word)
