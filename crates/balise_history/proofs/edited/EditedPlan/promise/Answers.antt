use Rattle.std.proofs.Common.{subst}
use Rattle.balise_history.specs.Held.{Edited, state_at}
use Rattle.balise_strike_laws.specs.Headline.{Promised}
use Rattle.balise_strike_laws.proofs.Promises.{sessions_promised}
use Rattle.balise_history.proofs.Answering.{view}
use Rattle.balise_history.proofs.edited.EditedPlan.promise.Goals as goal

pub returns : goal.returns
returns c = λ n.
    let i = c.self.invariant.session in
    let s = sessions_promised (state_at n (view c.self.inside.plan c.self.inside.history c.self.inside.next))
    (record { untagged = i.untagged; first = i.first; standing = i.standing; redoable = i.redoable; within = i.within }) in
    subst (λ (e : Edited). Promised e.base (state_at n e)) c.self.view_is s
