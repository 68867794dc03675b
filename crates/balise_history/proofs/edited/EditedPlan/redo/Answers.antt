-- A redo is answered as the rules answer it: the top of the stack is put back where its serial belongs, or memory is wanting.
use Rattle.std.proofs.Common.{◌≡◌, ◌≤◌, ◌∙◌, length, refl, sym, ap, subst, arith}
use Rattle.std.proofs.lemmas.Result.{err_from_is_err_and}
use Rattle.balise_rules.specs.Session.{Redo, Redone}
use Rattle.balise_history.specs.Held.{Edited, Accepts, Refuses}
use Rattle.balise_history.specs.Lists.{place_of}
use Rattle.balise_history.proofs.Answering.{view, Topped, top_of, topped, is-next, put-back, redo-accepts, redo-wants}
use Rattle.balise_history.proofs.Taking.{rising-standing}
use Rattle.balise_history.proofs.edited.EditedPlan.redo.Goals as goal
use Rattle.balise_history.proofs.edited.EditedPlan.redo.Goals.{After-place_of-place, In-Some}

pub place_of-place-requires : goal.place_of-place-requires
place_of-place-requires c = rw c.standing.ensures (rising-standing c.self.inside.plan.groups c.self.inside.history.standing c.self.inside.history.stack c.self.inside.next c.self.invariant)

-- the stack has a top, of the serial that was met
top_there : (c : In-Some) → Topped c.self.inside.history.stack c.in-Some.serial
top_there c = topped c.self.inside.history.stack c.in-Some.serial (sym c.top.ensures ∙ c.in-Some.is)

-- the place is that of its serial among the entries that stand
placed : (c : After-place_of-place) → c.place_of-place.result ≡ place_of (top_of c.self.inside.history.stack).0.0.0 c.self.inside.history.standing
placed c = rw (c.place_of-place.ensures.place, c.standing.ensures, (top_there (goal.at.After-place_of-place c).In-Some).serial) refl

pub put_back-requires : goal.put_back-requires
put_back-requires c =
    let at = goal.at.put_back-requires c in
    let history = c.self.inside.history in
    let top = top_there at.In-Some in
    let next = is-next c.self.inside.plan history c.self.inside.next c.place_of-place.result (top_of history.stack) top.rest c.self.invariant top.whole (placed at.After-place_of-place) in
    let within : c.place_of-place.result ≤ length history.standing = omega (arith, c.place_of-place.ensures.within, ap length c.standing.ensures) in
    (omega (arith, ap (λ (e : Edited). e.changes) c.self.view_is), (within, ((top.rest, top.whole), (next.0, next.1))))

pub invariant_of-self-2 : goal.invariant_of-self-2
invariant_of-self-2 c =
    let at = goal.at.invariant_of-self-2 c in
    let history = c.self.inside.history in
    let top = top_there at.In-Some in
    (put-back c.in_ok-put_back.field-0 c.self.inside.plan history c.self.inside.next c.place_of-place.result (top_of history.stack) top.rest c.put_back.new.plan c.put_back.new.self c.self.invariant top.whole (placed at.After-place_of-place) c.in_ok-put_back.ensures.puts).held

pub returns : goal.returns
returns c =
    let at = goal.at.returns c in
    let history = c.self.inside.history in
    let top = top_there at.In-Some in
    let left = view c.put_back.new.plan c.put_back.new.self c.self.inside.next in
    let answer = redo-accepts c.in_ok-put_back.field-0 c.self.inside.plan history c.self.inside.next c.place_of-place.result (top_of history.stack) top.rest c.put_back.new.plan c.put_back.new.self c.self.invariant top.whole (placed at.After-place_of-place) c.in_ok-put_back.ensures.puts in
    rw (← top.serial) (subst (λ (e : Edited). Accepts Redo e (Redone (top_of history.stack).0.0.0) left) c.self.view_is answer)

pub returns-in_err-put_back : goal.returns-in_err-put_back
returns-in_err-put_back c =
    let history = c.self.inside.history in
    let top = top_there (goal.at.returns-in_err-put_back c).In-Some in
    let refused = c.in_err-put_back.field-0.0 in
    let left = view c.put_back.new.plan c.put_back.new.self c.self.inside.next in
    let answer = redo-wants c.self.inside.plan history c.self.inside.next (top_of history.stack) top.rest c.put_back.new.plan c.put_back.new.self refused top.whole c.in_err-put_back.ensures.always c.in_err-put_back.ensures.puts in
    let answered = err_from_is_err_and c.from_residual.result c.from_residual.ensures.1 in
    rw (answered.1, answered.2) (subst (λ (e : Edited). Refuses Redo e refused left) c.self.view_is answer)
