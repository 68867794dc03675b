use Rattle.std.proofs.Common.{◌≡◌, ap, ◌∙◌, length, take, drop, replicate, arith, ◌+◌, ◌-◌, ◌*◌, ◌/◌, true, ℕ, List}
use Rattle.std.proofs.lemmas.List.{length-take, length-drop, length-replicate}
use borrow.Rule.Slice.PartMut.{put_mid}
use Rattle.balise_rules.specs.Bits.{ones, put_at}
use Rattle.balise_bits.specs.Bytes.{flat}
use Rattle.balise_bits.proofs.Flat.{flat-ones}
use Rattle.balise_bits.proofs.Packing.{flat-laid}
use Rattle.balise_bits.proofs.Laid.{room-lent, packed_laid, view-laid, IsLent}
use Rattle.balise_bits.proofs.bits.Bits.put_ones_in_bytes.Goals as goal

lent : (c : goal.After-self-1) → IsLent c.self.inside.bytes c.args.self.now c.as_mut_slice.result.now
lent c = record { packed = c.self.invariant; view = c.self.view_is; same = c.as_mut_slice.ensures.value }

abbrev filled : goal.After-self-1 → List ℕ
filled c = put_mid (c.args.at / 8) (c.args.at / 8 + c.args.count - c.args.at / 8) c.as_mut_slice.result.now c.fill.new.self

laid : (c : goal.After-self-1) → flat (filled c) ≡ put_at c.args.at (ones (8 * c.args.count)) (flat c.as_mut_slice.result.now)
laid c =
    let first = c.args.at / 8 in
    let n = first + c.args.count - first in
    let room = room-lent (lent c) in
    let few : length (take n (drop first c.as_mut_slice.result.now)) ≡ c.args.count = omega (arith, room, length-take n (drop first c.as_mut_slice.result.now), length-drop first c.as_mut_slice.result.now) in
    let all : flat c.fill.new.self ≡ ones (8 * c.args.count) = ap flat (c.fill.ensures.after (λ y e. e)) ∙ ap (λ (k : ℕ). flat (replicate k 255)) few ∙ flat-ones c.args.count in
    flat-laid c.as_mut_slice.result.now c.fill.new.self c.args.at c.args.count (ones (8 * c.args.count)) c.requires.aligned
    (omega (arith, room)) (length-replicate (8 * c.args.count) true) all

pub invariant_of-self : goal.invariant_of-self
invariant_of-self c = packed_laid (lent c) (filled c) c.args.at (ones (8 * c.args.count)) (omega (arith, length-replicate (8 * c.args.count) true)) (laid c)

pub returns : goal.returns
returns c = view-laid (lent c) (filled c) c.args.at (ones (8 * c.args.count)) (omega (arith, length-replicate (8 * c.args.count) true)) (laid c)
