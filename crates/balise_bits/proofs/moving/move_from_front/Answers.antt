use Rattle.std.proofs.Common.{arith}
use Rattle.balise_bits.specs.Bytes.{flat}
use Rattle.balise_bits.proofs.Flat.{length-flat}
use Rattle.balise_bits.proofs.Moved.{front_more}
use Rattle.balise_bits.proofs.moving.move_from_front.Goals as goal

pub chunks-preserved : goal.chunks-preserved
chunks-preserved c =
    front_more (flat c.args.bytes.now) (flat c.chunks.bytes) (flat c.move_at_once.new.bytes) c.args.to c.args.at c.args.len c.chunks.done c.min-width.result c.requires.order (omega (arith, c.requires.within, length-flat c.args.bytes.now)) (omega arith) c.chunks.invariant c.move_at_once.ensures
