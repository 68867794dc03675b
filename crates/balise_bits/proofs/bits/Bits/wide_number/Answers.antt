use Rattle.std.proofs.Common.{ap, ◌∙◌, arith}
use Rattle.balise_rules.specs.Bits.{num}
use Rattle.balise_bits.proofs.Laid.{part-lent, room-lent, IsLent}
use Rattle.balise_bits.proofs.bits.Bits.wide_number.Goals as goal
use Rattle.balise_bits.proofs.bits.Bits.wide_number.Goals.{After-as_slice}

lent : (c : After-as_slice) → IsLent c.self.inside.bytes c.args.self.now c.as_slice.result.now
lent c = record { packed = c.self.invariant; view = c.self.view_is; same = c.as_slice.ensures.value }

pub number_at-requires-clause-within : goal.number_at-requires-clause-within
number_at-requires-clause-within c = omega (arith, room-lent (lent c))

pub returns-clause-value : goal.returns-clause-value
returns-clause-value c = c.number_at.ensures.value ∙ ap num (part-lent (lent (goal.at.returns-clause-value c).After-as_slice) c.args.at c.args.width c.requires.within)
