-- A group gets its old number back, which isn't refused.
use Rattle.std.proofs.Common.{◌≡◌, ◌∙◌, None, inl, inr, refl, ap, subst}
use Rattle.balise_rules.specs.Doing.{refusal}
use Rattle.balise_rules.specs.Edits.{effect}
use Rattle.balise_rules.specs.declared.tagged_edit.TaggedEdit.TheVariants.{Renumber}
use Rattle.balise_rules.specs.Notes.{noted}
use Rattle.balise_edits.specs.Standing.{changed_to, IsLast}
use Rattle.balise_edits.proofs.Bare.{asks_of, back_of, bare_last}
use Rattle.balise_edits.proofs.Standing.{last_free, numbered, own_renumbered}
use Rattle.balise_edits.proofs.kinds.names.renumber_back.Goals as goal

pub returns-in-Ok : goal.returns-in-Ok
returns-in-Ok c =
    let f = c.args.entry.now in
    let groups = c.args.plan.now.groups in
    let old : c.old-old.result ≡ f.1.old = c.old-old.ensures ∙ ap (λ m. m.old) c.note.ensures in
    let number = c.requires.is.0 in
    let last : IsLast ((f.0.0, Renumber c.args.g number), f.1) groups = subst (λ x. IsLast ((f.0.0, x), f.1) groups) c.requires.is.1 c.requires.last in
    let own : (noted (Renumber c.args.g c.old-old.result) groups).own ≡ numbered f.1.own number = own_renumbered f.0.0 c.args.g number c.old-old.result f.1 groups last in (
      bare_last c.requires.last c.requires.is.1 refl,
      c.in-Ok.ensures.does.1 ∙ ap (λ i. changed_to (effect (0, Renumber c.args.g c.old-old.result) i groups) c.args.plan.now) own
          ∙ ap (λ o. changed_to (effect (0, Renumber c.args.g o) (numbered f.1.own number) groups) c.args.plan.now) old ∙ back_of c.args.plan.now c.requires.last c.requires.is.1,
    )

pub returns-in-Err : goal.returns-in-Err
returns-in-Err c =
    let f = c.args.entry.now in
    let groups = c.args.plan.now.groups in
    let old : c.old-old.result ≡ f.1.old = c.old-old.ensures ∙ ap (λ m. m.old) c.note.ensures in
    let asks = asks_of c.requires.last c.requires.is.1 in
    let free : refusal (Renumber c.args.g c.old-old.result) groups ≡ None = rw old (last_free f (Renumber c.args.g f.1.old) groups c.requires.last asks) in
    (elim c.in-Err.ensures.does.0 [ inl e ↦ e | inr e ↦ absurd (cc) ], refl, c.in-Err.ensures.does.1)
