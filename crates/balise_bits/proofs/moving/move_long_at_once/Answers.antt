use Rattle.std.proofs.Common.{ap, ◌∙◌, arith, ◌≡◌, ◌+◌, ◌-◌, ◌*◌, ◌/◌, ◌%◌, ℕ, List, Bool, replicate, take, drop}
use borrow.Rule.Slice.PartMut.{put_mid}
use Rattle.balise_rules.specs.Bits.{part, put_at}
use Rattle.balise_bits.specs.Bytes.{flat}
use Rattle.balise_bits.proofs.Moved.{part-copied}
use Rattle.balise_bits.proofs.moving.move_long_at_once.Goals as goal

pub returns : goal.returns
returns c =
    let at = c.args.at in
    let bytes = c.args.bytes.now in
    let first = at / 8 in
    let n = c.div_ceil.result - first in
    let copied = c.copy_from_slice.new.self in
    let zeros : List ℕ = replicate 128 0 in
    let same : first + n - first ≡ n = omega arith in
    let place : at % 8 ≡ at - 8 * first = omega arith in
    c.put_part_at.ensures
    ∙ ap (λ (l : List Bool). put_at c.args.to l (flat bytes))
    (ap (λ (k : ℕ). part k c.args.len (flat (put_mid 0 n zeros copied))) place
    ∙ part-copied bytes zeros copied first n at c.args.len (c.copy_from_slice.ensures.after ∙ ap (λ (k : ℕ). take k (drop first bytes)) same) (omega arith) (omega arith) (omega arith))
