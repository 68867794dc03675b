-- An edit that is accepted goes after those that stand, and is answered as the rules answer it.
use Rattle.std.proofs.Common.{◌≡◌, ◌+◌, [], ◌∷◌, ◌++◌, refl, subst, arith, add-one}
use Rattle.balise_rules.specs.Session.{Ask, Done}
use Rattle.balise_edits.specs.Edits.{edit_of}
use Rattle.balise_edit_laws.specs.Along.{back_along}
use Rattle.balise_commands.specs.Commands.{command_of}
use Rattle.balise_history.specs.Held.{Edited, Accepts}
use Rattle.balise_history.proofs.Adding.{plan-made}
use Rattle.balise_history.proofs.Answering.{view, added-one, edit-accepts}
use Rattle.balise_edit_laws.proofs.ReadyCommands.{command_spelt}
use Rattle.balise_history.proofs.edited.EditedPlan.edit.Goals as goal
use Rattle.balise_history.proofs.edited.EditedPlan.edit.Goals.{After-push}

pub apply-requires-clause-new : goal.apply-requires-clause-new
apply-requires-clause-new c = (plan-made (back_along c.self.inside.history.standing c.self.inside.plan.groups) c.self.inside.plan.groups c.self.inside.history.standing c.self.inside.history.stack c.self.inside.next c.self.invariant).1 c.self.inside.next (omega arith)

pub apply-requires-clause-spelt : goal.apply-requires-clause-spelt
apply-requires-clause-spelt c =
    let s = (plan-made (back_along c.self.inside.history.standing c.self.inside.plan.groups) c.self.inside.plan.groups c.self.inside.history.standing c.self.inside.history.stack c.self.inside.next c.self.invariant).0 in
    command_spelt (command_of c.args.command) (edit_of c.in_ok-edit.edit) c.self.inside.plan.groups s c.in_ok-edit.ensures.ok

-- the entry comes after those that stood
comes_last : (c : After-push) → c.push.new.self.standing ≡ c.self.inside.history.standing ++ c.in_ok-entry.entry ∷ []
comes_last c = rw (c.push.ensures.standing, c.reserve.ensures.standing) refl

pub invariant_of-self-2 : goal.invariant_of-self-2
invariant_of-self-2 c =
    let last = comes_last (goal.at.invariant_of-self-2 c).After-push in
    let applied = c.in_ok-entry.ensures in
    rw add-one (added-one c.self.inside.plan c.self.inside.history c.self.inside.next (command_of c.args.command) (edit_of c.in_ok-edit.edit) c.in_ok-entry.entry c.apply.new.plan c.push.new.self c.self.invariant c.in_ok-edit.ensures.ok applied.0 applied.1 applied.2 last c.push.ensures.stack).held

pub returns : goal.returns
returns c =
    let last = comes_last (goal.at.returns c).After-push in
    let applied = c.in_ok-entry.ensures in
    let plan = c.self.inside.plan in
    let history = c.self.inside.history in
    let serial = c.self.inside.next in
    let asked = Ask (command_of c.args.command) in
    let answer = edit-accepts plan history serial (command_of c.args.command) (edit_of c.in_ok-edit.edit) c.in_ok-entry.entry c.apply.new.plan c.push.new.self c.self.invariant c.in_ok-edit.ensures.ok applied.0 applied.1 applied.2 last c.push.ensures.stack in
    let answered : Accepts asked (view plan history serial) (Done serial) (view c.apply.new.plan c.push.new.self (serial + 1)) = rw (add-one serial) answer in
    subst (λ (x : Edited). Accepts asked x (Done serial) (view c.apply.new.plan c.push.new.self (serial + 1))) c.self.view_is answered
