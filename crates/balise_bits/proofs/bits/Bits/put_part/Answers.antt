use Rattle.std.proofs.Common.{arith}
use Rattle.balise_bits.proofs.Laid.{room-lent, packed_part, view-part, IsLent}
use Rattle.balise_bits.proofs.bits.Bits.put_part.Goals as goal
use Rattle.balise_bits.proofs.bits.Bits.put_part.Goals.{After-as_mut_slice, After-as_slice}

lent : (c : After-as_mut_slice) → IsLent c.self.inside.bytes c.args.self.now c.as_mut_slice.result.now
lent c = record { packed = c.self.invariant; view = c.self.view_is; same = c.as_mut_slice.ensures.value }

other : (c : After-as_slice) → IsLent c.other.inside.bytes c.args.other.now c.as_slice.result.now
other c = record { packed = c.other.invariant; view = c.other.view_is; same = c.as_slice.ensures.value }

pub put_part_at-requires-clause-within : goal.put_part_at-requires-clause-within
put_part_at-requires-clause-within c = omega (arith, room-lent (other c))

pub put_part_at-requires-clause-room : goal.put_part_at-requires-clause-room
put_part_at-requires-clause-room c = omega (arith, room-lent (lent (goal.at.put_part_at-requires-clause-room c).After-as_mut_slice))

pub invariant_of-self : goal.invariant_of-self
invariant_of-self c =
    let w = goal.at.invariant_of-self c in
    packed_part (lent w.After-as_mut_slice) (other w.After-as_slice) c.put_part_at.new.bytes c.args.to c.args.at c.args.len c.requires.within c.requires.room c.put_part_at.ensures

pub returns : goal.returns
returns c =
    let w = goal.at.returns c in
    view-part (lent w.After-as_mut_slice) (other w.After-as_slice) c.put_part_at.new.bytes c.args.to c.args.at c.args.len c.requires.within c.requires.room c.put_part_at.ensures
