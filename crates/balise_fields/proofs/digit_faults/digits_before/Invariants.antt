use Rattle.std.proofs.Common.{◌≡◌, ◌+◌, drop}
use Rattle.balise_fields.specs.Explaining.{digits_before}
use Rattle.balise_fields.proofs.digit_faults.digits_before.Given as goal

abbrev pub invariant-loop-place : goal.invariant-loop-place
invariant-loop-place l = digits_before l.text ≡ l.place + digits_before (drop l.place l.text)
