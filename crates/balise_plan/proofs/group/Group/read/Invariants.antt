use Rattle.balise_plan.proofs.groups.Reading.{Reading}
use Rattle.balise_plan.proofs.group.Group.read.Given as goal

abbrev pub invariant-loop-bits : goal.invariant-loop-bits
invariant-loop-bits l = Reading l.fn.telegrams.items l.read l.bits-iterator.rest.items
