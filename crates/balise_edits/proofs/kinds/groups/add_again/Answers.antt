use Rattle.std.proofs.Common.{◌≡◌, ◌∙◌, None, inl, inr, refl, ap, sym}
use Rattle.balise_rules.specs.Doing.{refusal}
use Rattle.balise_rules.specs.declared.tagged_edit.TaggedEdit.TheVariants.{AddGroup}
use Rattle.balise_rules.specs.Plan.{read_group}
use Rattle.balise_edits.specs.Edits.{edit_of}
use Rattle.balise_edits.proofs.Standing.{next_free}
use Rattle.balise_edits.proofs.kinds.groups.add_again.Goals as goal

pub returns-in-Err : goal.returns-in-Err
returns-in-Err c =
    let f = c.args.entry.now in
    let groups = c.args.plan.now.groups in
    let own = c.in-AddGroup in
    let bs = own.telegrams.items in
    let is : AddGroup own.after bs ≡ f.0.1 = sym (ap edit_of own.is) ∙ c.edit.ensures in
    let r : refusal (AddGroup own.after bs) groups ≡ None = ap (λ e. refusal e groups) is ∙ next_free f groups c.requires.next in
    let d = c.in-Err.ensures bs (ap read_group (sym c.in_ok-copy_telegrams-in-AddGroup.ensures.ok) ∙ c.in-Ok.ensures.ok) in
    (elim d.0 [ inl e ↦ e | inr e ↦ absurd (cc) ], refl, d.1)
