use Rattle.balise_history.proofs.Taking.{rising-standing}
use Rattle.balise_history.proofs.edited.EditedPlan.dependents.Goals as goal

pub dependents_of-requires-clause-rising : goal.dependents_of-requires-clause-rising
dependents_of-requires-clause-rising c = rw c.standing-standing.ensures (rising-standing c.self.inside.plan.groups c.self.inside.history.standing c.self.inside.history.stack c.self.inside.next c.self.invariant)
