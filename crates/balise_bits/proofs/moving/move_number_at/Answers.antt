use Rattle.std.proofs.Common.{ap, ◌∙◌, arith, List, Bool}
use Rattle.balise_rules.specs.Bits.{bits, put_at}
use Rattle.balise_bits.specs.Bytes.{flat}
use Rattle.balise_bits.proofs.Flat.{length-flat}
use Rattle.balise_bits.proofs.Pieces.{bits-num_part}
use Rattle.balise_bits.proofs.moving.move_number_at.Goals as goal

pub returns : goal.returns
returns c =
    c.put_number_at.ensures
    ∙ ap (λ (l : List Bool). put_at c.args.to l (flat c.args.bytes.now)) (ap (bits c.args.len) c.number_at-value.ensures.value ∙ bits-num_part (flat c.args.bytes.now) c.args.at c.args.len (omega (arith, length-flat c.args.bytes.now)))
