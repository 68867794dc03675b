use Rattle.std.proofs.Common.{◌≡◌, ◌∙◌, ◌+◌, List, Bool, ap, sym, arith}
use Rattle.balise_rules.specs.Bits.{bits, part, put_at}
use Rattle.balise_bits.specs.Bytes.{flat}
use Rattle.balise_bits.proofs.Flat.{length-flat}
use Rattle.balise_bits.proofs.Pieces.{bits-num_part}
use Rattle.balise_bits.proofs.Putting.{put_at-more, put_at-none}
use Rattle.balise_bits.proofs.places.put_numbers_at.Goals as goal

pub numbers-init : goal.numbers-init
numbers-init c = (sym (put_at-none c.args.to c.args.at (flat c.args.from.now) (flat c.args.bytes.now)), omega arith)

pub numbers-preserved : goal.numbers-preserved
numbers-preserved c =
    let x = flat c.args.from.now in
    let done = c.numbers.done in
    let w = c.min-width.result in
    let below = c.numbers.invariant.1 in
    let long = length-flat c.args.from.now in
    let number : bits w c.number_at.result ≡ part (c.args.at + done) w x = ap (bits w) c.number_at.ensures.value ∙ bits-num_part x (c.args.at + done) w (omega (arith, long, below)) in (
      c.put_number_at.ensures ∙ ap (λ (l : List Bool). put_at (c.args.to + done) l (flat c.numbers.bytes)) number
          ∙ ap (put_at (c.args.to + done) (part (c.args.at + done) w x)) c.numbers.invariant.0
          ∙ put_at-more c.args.to c.args.at done w x (flat c.args.bytes.now) (omega (arith, long, below)) (omega (arith, length-flat c.args.bytes.now, below)),
      omega arith,
    )
