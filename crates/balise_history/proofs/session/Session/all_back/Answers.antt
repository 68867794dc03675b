-- The entries that come back have the lines of those that the rules bring back.
use Rattle.std.proofs.Common.{◌∙◌, map, refl, ap}
use Rattle.std.proofs.lemmas.Result.{IfOk-weaker}
use Rattle.balise_edit_laws.specs.Along.{back_along}
use Rattle.balise_rules.specs.Journal.{all_back}
use Rattle.balise_rules.specs.Session.{entries}
use Rattle.balise_history.specs.Held.{Edited}
use Rattle.balise_history.specs.Returned.{bare}
use Rattle.balise_history.specs.Sessions.{Seen}
use Rattle.balise_history.proofs.Lines.{lines-back, lines-same}
use Rattle.balise_history.proofs.session.Session.all_back.Goals as goal

pub all_back-requires : goal.all_back-requires
all_back-requires c =
    let history = c.edited.inside.history in
    (lines-back (back_along history.standing c.edited.inside.plan.groups) c.edited.inside.plan.groups history.standing history.standing history.stack c.edited.inside.next c.edited.invariant refl refl).0

pub returns-clause-entries : goal.returns-clause-entries
returns-clause-entries c =
    let history = c.edited.inside.history in
    let lines = (lines-back (back_along history.standing c.edited.inside.plan.groups) c.edited.inside.plan.groups history.standing history.standing history.stack c.edited.inside.next c.edited.invariant refl refl).1 in
    let same = lines ∙ ap (λ (x : Edited). map bare (entries x.base (all_back x.stack x.standing))) c.edited.view_is ∙ ap (λ (s : Seen). map bare (entries s.state.base (all_back s.state.stack s.state.standing))) c.self.view_is in
    IfOk-weaker c.all_back.result _ _ (λ v is. ap (map bare) is ∙ same) c.all_back.ensures.ok

pub returns-clause-ok : goal.returns-clause-ok
returns-clause-ok c = IfOk-weaker c.all_back.result _ _ (λ v is. lines-same v.items _ is) (returns-clause-entries c)
