use Rattle.std.proofs.Common.{◌≡◌, ◌∙◌, None, inl, inr, refl, ap}
use Rattle.balise_rules.specs.Doing.{refusal}
use Rattle.balise_edits.specs.Edits.{edit_of}
use Rattle.balise_edits.proofs.Standing.{next_free}
use Rattle.balise_edits.proofs.applying.repeated.Goals as goal

pub returns-in-Err-clause-again : goal.returns-in-Err-clause-again
returns-in-Err-clause-again c =
    let groups = c.args.plan.now.groups in
    let r : refusal (edit_of c.edit.result.now) groups ≡ None = ap (λ e. refusal e groups) c.edit.ensures ∙ next_free c.args.entry.now groups c.requires.next in
    (elim c.in-Err.ensures.does.0 [ inl e ↦ e | inr e ↦ absurd (cc) ], refl, c.in-Err.ensures.does.1)
