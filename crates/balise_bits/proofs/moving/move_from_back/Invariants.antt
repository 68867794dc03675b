use Rattle.balise_bits.specs.Bytes.{flat}
use Rattle.balise_bits.proofs.Moved.{Back}
use Rattle.balise_bits.proofs.moving.move_from_back.Given as goal

abbrev pub invariant-chunks : goal.invariant-chunks
invariant-chunks l = Back (flat l.fn.bytes) (flat l.bytes) l.to l.at l.len l.left

abbrev pub decreases-chunks : goal.decreases-chunks
decreases-chunks l = l.left
