use Rattle.std.proofs.Common.{◌≡◌, ◌∙◌, None, inl, inr, refl, ap, sym}
use Rattle.balise_rules.specs.Doing.{refusal}
use Rattle.balise_rules.specs.declared.tagged_edit.TaggedEdit.TheVariants.{InsertPacket}
use Rattle.balise_edits.specs.Edits.{edit_of}
use Rattle.balise_edits.proofs.Standing.{next_free}
use Rattle.balise_edits.proofs.kinds.packets.insert_again.Goals as goal

pub returns-in-Err : goal.returns-in-Err
returns-in-Err c =
    let f = c.args.entry.now in
    let groups = c.args.plan.now.groups in
    let own = c.in-InsertPacket in
    let is : InsertPacket own.g own.t own.after own.packet.value ≡ f.0.1 = sym (ap edit_of own.is) ∙ c.edit.ensures in
    let r : refusal (InsertPacket own.g own.t own.after c.in_ok-copy_packet-in-InsertPacket.field-0) groups ≡ None =
    ap (λ x. refusal (InsertPacket own.g own.t own.after x) groups) (c.in_ok-copy_packet-in-InsertPacket.ensures.ok ∙ c.deref.ensures) ∙ ap (λ e. refusal e groups) is ∙ next_free f groups c.requires.next in
    (elim c.in-Err.ensures.0 [ inl e ↦ e | inr e ↦ absurd (cc) ], refl, c.in-Err.ensures.1)
