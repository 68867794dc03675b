use Rattle.std.proofs.Common.{arith}
use Rattle.balise_bits.specs.Bytes.{flat}
use Rattle.balise_bits.proofs.Flat.{length-flat}
use Rattle.balise_bits.proofs.Moved.{back_more}
use Rattle.balise_bits.proofs.moving.move_from_back.Goals as goal

pub chunks-preserved : goal.chunks-preserved
chunks-preserved c =
    back_more (flat c.args.bytes.now) (flat c.chunks.bytes) (flat c.move_at_once.new.bytes) c.args.to c.args.at c.args.len c.chunks.left c.min-width.result c.requires.order (omega (arith, c.requires.room, length-flat c.args.bytes.now)) (omega arith) c.chunks.invariant c.move_at_once.ensures
