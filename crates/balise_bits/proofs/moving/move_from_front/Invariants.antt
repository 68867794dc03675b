use Rattle.std.proofs.Common.{◌-◌}
use Rattle.balise_bits.specs.Bytes.{flat}
use Rattle.balise_bits.proofs.Moved.{Front}
use Rattle.balise_bits.proofs.moving.move_from_front.Given as goal

abbrev pub invariant-chunks : goal.invariant-chunks
invariant-chunks l = Front (flat l.fn.bytes) (flat l.bytes) l.to l.at l.len l.done

abbrev pub decreases-chunks : goal.decreases-chunks
decreases-chunks l = l.len - l.done
