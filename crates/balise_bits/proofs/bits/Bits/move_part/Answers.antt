use Rattle.std.proofs.Common.{arith}
use Rattle.balise_bits.proofs.Laid.{room-lent, packed_part, view-part, IsLent}
use Rattle.balise_bits.proofs.bits.Bits.move_part.Goals as goal
use Rattle.balise_bits.proofs.bits.Bits.move_part.Goals.{After-as_mut_slice}

lent : (c : After-as_mut_slice) → IsLent c.self.inside.bytes c.args.self.now c.as_mut_slice.result.now
lent c = record { packed = c.self.invariant; view = c.self.view_is; same = c.as_mut_slice.ensures.value }

pub move_part_at-requires-clause-within : goal.move_part_at-requires-clause-within
move_part_at-requires-clause-within c = omega (arith, room-lent (lent c))

pub move_part_at-requires-clause-room : goal.move_part_at-requires-clause-room
move_part_at-requires-clause-room c = omega (arith, room-lent (lent c))

pub invariant_of-self : goal.invariant_of-self
invariant_of-self c = let l = lent (goal.at.invariant_of-self c).After-as_mut_slice in packed_part l l c.move_part_at.new.bytes c.args.to c.args.at c.args.len c.requires.within c.requires.room c.move_part_at.ensures

pub returns : goal.returns
returns c = let l = lent (goal.at.returns c).After-as_mut_slice in view-part l l c.move_part_at.new.bytes c.args.to c.args.at c.args.len c.requires.within c.requires.room c.move_part_at.ensures
