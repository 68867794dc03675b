use Rattle.std.proofs.Common.{length, ◌-◌}
use Rattle.balise_history.proofs.DependentsTo.{DependentsTo}
use Rattle.balise_history.proofs.dependents.dependents_among.Given as goal

abbrev pub invariant-later : goal.invariant-later
invariant-later l = DependentsTo l.entry l.later l.dependents.items l.place

abbrev pub decreases-later : goal.decreases-later
decreases-later l = length l.later - l.place
