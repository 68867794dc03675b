use Rattle.std.proofs.Common.{length, ◌-◌}
use Rattle.balise_history.proofs.TestedTo.{TestedTo}
use Rattle.balise_history.proofs.dependents.serials_behind.Given as goal

abbrev pub invariant-later : goal.invariant-later
invariant-later l = TestedTo l.entry l.later l.behind.items l.place

abbrev pub decreases-later : goal.decreases-later
decreases-later l = length l.later - l.place
