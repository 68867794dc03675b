use Rattle.std.proofs.Common.{◌≡◌, ◌∙◌, List, [], ◌∷◌, ◌++◌, sym, ap}
use Rattle.balise_rules.specs.Journal.{Noted, noted_of, same_noted}
use Rattle.balise_rules.specs.Notes.{noted}
use Rattle.balise_rules.specs.Paths.{Entry}
use Rattle.balise_edits.specs.Edits.{edit_of}
use Rattle.balise_commands.specs.Lines.{line_in, line_edit_of, noted_in}
use Rattle.balise_history.proofs.Entering.{line-spelt, line-unused, is-entered, is-noted-else}
use Rattle.balise_history.proofs.edited.journal_entry.enter.Goals as goal
use Rattle.balise_history.proofs.edited.journal_entry.enter.Goals.{After-push}

pub apply-requires-clause-new : goal.apply-requires-clause-new
apply-requires-clause-new c = line-unused c.args.plan.now c.args.history.now c.args.next c.args.line.serial c.requires.held c.requires.comes

pub apply-requires-clause-spelt : goal.apply-requires-clause-spelt
apply-requires-clause-spelt c = line-spelt (line_edit_of c.args.line.edit) (edit_of c.in_ok-edit.edit) c.args.plan.now.groups c.in_ok-edit.ensures.ok

-- what the edit notes is compared with what the line says
told : (c : After-push) → same_noted (noted_of (edit_of c.in_ok-edit.edit) (noted (edit_of c.in_ok-edit.edit) c.args.plan.now.groups)) (noted_in c.args.line.noted) ≡ c.same_noted-is_told.result
told c =
    let l = line_in c.args.line in
    ap (λ (x : Entry). same_noted (noted_of x.0.1 x.1) l.noted) (sym c.in-Ok.ensures.1) ∙ ap (λ (m : Noted). same_noted m l.noted) (sym c.noted.ensures) ∙ sym c.same_noted-is_told.ensures

-- its entry stands after the others
standing : (c : After-push) → c.push.new.self.standing ≡ c.args.history.now.standing ++ c.in-Ok.entry ∷ []
standing c = c.push.ensures.standing ∙ ap (λ (es : List Entry). es ++ c.in-Ok.entry ∷ []) c.reserve.ensures.standing

pub returns-then-is_told : goal.returns-then-is_told
returns-then-is_told c =
    let t = c.in-Ok.ensures in
    is-entered c.args.plan.now c.args.history.now c.args.next (line_in c.args.line) c.requires.held c.requires.comes (edit_of c.in_ok-edit.edit) c.in_ok-edit.ensures.ok t.0 (told c.before ∙ c.if-is_told.true) c.in-Ok.entry c.apply.new.plan c.push.new.self t.1 t.2 (standing c.before) c.push.ensures.stack

pub returns-else-is_told : goal.returns-else-is_told
returns-else-is_told c =
    let t = c.in-Ok.ensures in
    is-noted-else c.args.plan.now c.args.history.now c.args.next (line_in c.args.line) c.requires.held c.requires.comes (edit_of c.in_ok-edit.edit) c.in_ok-edit.ensures.ok t.0 (told c.before ∙ c.if-is_told.false) c.in-Ok.entry c.apply.new.plan c.push.new.self t.1 t.2 (standing c.before) c.push.ensures.stack
