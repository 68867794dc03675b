use Rattle.std.proofs.Common.{◌≡◌, ◌∙◌, ℕ, List, map, reverse, ap, subst, IfOk}
use Rattle.balise_rules.specs.Session.{Removed}
use Rattle.balise_history.specs.Held.{Edited}
use Rattle.balise_history.specs.Sessions.{Seen}
use Rattle.balise_history.proofs.Stacked.{of-removed}
use Rattle.balise_history.proofs.session.Session.undone.Goals as goal

pub returns-clause-ok : goal.returns-clause-ok
returns-clause-ok c =
    let e = of-removed c.edited.inside.history.stack ∙ ap (λ (x : Edited). map (λ (r : Removed). r.item.0) x.stack) c.edited.view_is
    ∙ ap (λ (s : Seen). map (λ (r : Removed). r.item.0) s.state.stack) c.self.view_is in
    subst (λ (ns : List ℕ). IfOk c.undone.result (λ v. v.items ≡ reverse ns)) e c.undone.ensures.ok
