use Rattle.std.proofs.Common.{ap, ◌∙◌, arith, ℕ}
use Rattle.balise_rules.specs.Bits.{bits, put_at}
use Rattle.balise_bits.specs.Bytes.{flat}
use Rattle.balise_rules.proofs.Numbers.{length-bits}
use Rattle.balise_bits.proofs.Laid.{room-lent, packed_laid, view-laid, IsLent}
use Rattle.balise_bits.proofs.bits.Bits.put.Goals as goal
use Rattle.balise_bits.proofs.bits.Bits.put.Goals.{After-as_mut_slice}

lent : (c : After-as_mut_slice) → IsLent c.self.inside.bytes c.args.self.now c.as_mut_slice.result.now
lent c = record { packed = c.self.invariant; view = c.self.view_is; same = c.as_mut_slice.ensures.value }

pub put_number_at-requires-clause-within : goal.put_number_at-requires-clause-within
put_number_at-requires-clause-within c = omega (arith, room-lent (lent (goal.at.put_number_at-requires-clause-within c).After-as_mut_slice))

pub invariant_of-self : goal.invariant_of-self
invariant_of-self c =
    let laid = c.put_number_at.ensures ∙ ap (λ (v : ℕ). put_at c.args.at (bits c.args.width v) (flat c.as_mut_slice.result.now)) c.from.ensures in
    packed_laid (lent (goal.at.invariant_of-self c).After-as_mut_slice) c.put_number_at.new.bytes c.args.at (bits c.args.width c.args.value) (omega (arith, length-bits c.args.width c.args.value)) laid

pub returns : goal.returns
returns c =
    let laid = c.put_number_at.ensures ∙ ap (λ (v : ℕ). put_at c.args.at (bits c.args.width v) (flat c.as_mut_slice.result.now)) c.from.ensures in
    view-laid (lent (goal.at.returns c).After-as_mut_slice) c.put_number_at.new.bytes c.args.at (bits c.args.width c.args.value) (omega (arith, length-bits c.args.width c.args.value)) laid
