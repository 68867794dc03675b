use Rattle.std.proofs.Common.{◌≡◌, ◌+◌, drop}
use Rattle.balise_fields.specs.Explaining.{zeros_before}
use Rattle.balise_fields.proofs.digit_faults.first_one.Given as goal

abbrev pub invariant-loop-place : goal.invariant-loop-place
invariant-loop-place l = l.at + zeros_before (drop l.at l.bits) ≡ l.place + zeros_before (drop l.place l.bits)
