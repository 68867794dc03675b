-- An undo is answered as the rules answer it: the last entry is taken out, with none behind it, or memory is wanting.
use Rattle.std.proofs.Common.{subst, ◌≡◌, ◌<◌, ◌-◌, ◌∙◌, ℕ, suc, List, [], Some, None, length, drop, slice_get, sym, ap, arith}
use Rattle.balise_rules.specs.Paths.{Entry}
use Rattle.balise_rules.specs.Behind.{serials_behind}
use Rattle.balise_rules.specs.Session.{first_dependent}
use Rattle.std.proofs.lemmas.Option.{slice_get-get_or}
use Rattle.std.proofs.lemmas.Result.{err_from_is_err_and}
use Rattle.balise_rules.specs.Session.{Undo}
use Rattle.balise_history.specs.Held.{Edited, Refuses}
use Rattle.balise_history.proofs.Answering.{is-last, none-behind, took-out, undo-accepts, undo-wants, view}
use Rattle.balise_history.proofs.edited.EditedPlan.undo.Goals as goal
use Rattle.balise_history.proofs.edited.EditedPlan.undo.Goals.{After-serial-serial}

abbrev last_place : After-serial-serial → ℕ
last_place c = length c.standing-standing.result.now - 1

-- the last entry stands there
last_there : (c : After-serial-serial) → slice_get c.self.inside.history.standing (last_place c) ≡ Some c.index-standing-count.result
last_there c =
    let within : last_place c < length c.standing-standing.result.now = omega arith in
    rw (← c.standing-standing.ensures) (slice_get-get_or c.standing-standing.result.now (last_place c) c.index-standing-count.result within ∙ ap Some (sym c.index-standing-count.is))

-- so that none stands after it
comes_last : (c : After-serial-serial) → suc (last_place c) ≡ length c.self.inside.history.standing
comes_last c = omega (arith, ap (λ (es : List Entry). length es) c.standing-standing.ensures)

none_after : (c : After-serial-serial) → drop (suc (last_place c)) c.self.inside.history.standing ≡ []
none_after c = none-behind c.self.inside.history.standing (last_place c) (comes_last c)

independent : (c : After-serial-serial) → first_dependent c.index-standing-count.result (drop (suc (last_place c)) c.self.inside.history.standing) ≡ None
independent c = ap (first_dependent c.index-standing-count.result) (none_after c)

pub take_out-requires-clause-last : goal.take_out-requires-clause-last
take_out-requires-clause-last c = λ entry there.
    let last = (goal.at.take_out-requires-clause-last c).After-serial-serial in
    is-last c.self.inside.plan c.self.inside.history c.self.inside.next (last_place last) c.index-standing-count.result entry c.self.invariant (last_there last) (independent last) there

pub invariant_of-self-2 : goal.invariant_of-self-2
invariant_of-self-2 c =
    let last = (goal.at.invariant_of-self-2 c).After-serial-serial in
    let entry : Entry = c.index-standing-count.result in
    let none : c.new-behind.result.items ≡ serials_behind entry (drop (suc (last_place last)) c.self.inside.history.standing) = c.new-behind.ensures.items ∙ ap (serials_behind entry) (sym (none_after last)) in
    (took-out c.in_ok-take_out.field-0 c.self.inside.plan c.self.inside.history c.self.inside.next (last_place last) entry c.new-behind.result.items c.take_out.new.plan c.take_out.new.self c.self.invariant (last_there last) (independent last) none c.in_ok-take_out.ensures.takes).held

pub returns : goal.returns
returns c =
    let last = (goal.at.returns c).After-serial-serial in
    let answer = undo-accepts c.in_ok-take_out.field-0 c.self.inside.plan c.self.inside.history c.self.inside.next (last_place last) c.index-standing-count.result c.new-behind.result.items c.take_out.new.plan c.take_out.new.self c.self.invariant (last_there last) (comes_last last) c.new-behind.ensures.items c.in_ok-take_out.ensures.takes in
    rw (← c.self.view_is, c.serial-serial.ensures) answer

pub returns-in_err-take_out : goal.returns-in_err-take_out
returns-in_err-take_out c =
    let b = (goal.at.returns-in_err-take_out c).After-serial-serial in
    let e : Entry = c.index-standing-count.result in
    let r = c.in_err-take_out.field-0.0 in
    let q = view c.take_out.new.plan c.take_out.new.self c.self.inside.next in
    let w = undo-wants c.self.inside.plan c.self.inside.history c.self.inside.next (last_place b) e c.take_out.new.plan c.take_out.new.self r (last_there b) (comes_last b) (c.in_err-take_out.ensures.always e (last_there b)) c.in_err-take_out.ensures.takes in
    let z = err_from_is_err_and c.from_residual.result c.from_residual.ensures.1 in
    rw (z.1, z.2) (subst (λ (x : Edited). Refuses Undo x r q) c.self.view_is w)
