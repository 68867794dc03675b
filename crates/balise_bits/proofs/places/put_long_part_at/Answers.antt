use Rattle.std.proofs.Common.{ap, ◌∙◌, arith, ◌≡◌, ◌+◌, ◌-◌, ◌*◌, ◌/◌, ℕ, List, Bool}
use Rattle.balise_rules.specs.Bits.{bits, part, put_at}
use Rattle.balise_bits.specs.Bytes.{flat}
use Rattle.balise_bits.proofs.Flat.{length-flat}
use Rattle.balise_bits.proofs.Pieces.{bits-num_part}
use Rattle.balise_bits.proofs.Putting.{put_at-pieces}
use Rattle.balise_bits.proofs.places.put_long_part_at.Goals as goal

pub returns : goal.returns
returns c =
    let to = c.args.to in
    let at = c.args.at in
    let x = flat c.args.from.now in
    let old = flat c.args.bytes.now in
    let n = c.min-head.result in
    let m = 8 * ((c.args.len - n) / 8) in
    let k = c.args.len - (n + m) in
    let long = length-flat c.args.from.now in
    let one : bits n c.number_at.result ≡ part at n x = ap (bits n) c.number_at.ensures.value ∙ bits-num_part x at n (omega (arith, long)) in
    let two : bits k c.number_at-2.result ≡ part (at + (n + m)) k x = ap (bits k) c.number_at-2.ensures.value ∙ bits-num_part x (at + (n + m)) k (omega (arith, long)) in
    let whole : n + m + k ≡ c.args.len = omega arith in
    c.put_in_byte-2.ensures ∙ ap (λ (l : List Bool). put_at (to + (n + m)) l (flat c.put_bytes_at.new.bytes)) two
    ∙ ap (put_at (to + (n + m)) (part (at + (n + m)) k x)) (c.put_bytes_at.ensures ∙ ap (put_at (to + n) (part (at + n) m x)) (c.put_in_byte.ensures ∙ ap (λ (l : List Bool). put_at to l old) one))
    ∙ put_at-pieces to at n m k x old (omega (arith, long)) (omega (arith, length-flat c.args.bytes.now))
    ∙ ap (λ (i : ℕ). put_at to (part at i x) old) whole
