use Rattle.std.proofs.Common.{◌≡◌, ◌≤◌, ◌-◌}
use Rattle.balise_rules.specs.Bits.{part, put_at}
use Rattle.balise_bits.specs.Bytes.{flat}
use Rattle.balise_bits.proofs.places.put_numbers_at.Given as goal

abbrev pub invariant-numbers : goal.invariant-numbers
invariant-numbers l = (flat l.bytes ≡ put_at l.to (part l.at l.done (flat l.from)) (flat l.fn.bytes)) × (l.done ≤ l.len)

abbrev pub decreases-numbers : goal.decreases-numbers
decreases-numbers l = l.len - l.done
