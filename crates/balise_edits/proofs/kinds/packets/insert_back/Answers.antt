-- A packet put in is taken out again, which isn't refused.
use Rattle.std.proofs.Common.{◌≡◌, None, inl, inr, refl}
use Rattle.balise_rules.specs.declared.tag.Tag.TheVariants.{Fresh}
use Rattle.balise_rules.specs.Doing.{refusal}
use Rattle.balise_rules.specs.declared.tagged_edit.TaggedEdit.TheVariants.{DeletePacket}
use Rattle.balise_edits.proofs.Bare.{asks_of}
use Rattle.balise_edits.proofs.Standing.{last_free}
use Rattle.balise_edits.proofs.kinds.packets.insert_back.Goals as goal

pub returns-in-Err : goal.returns-in-Err
returns-in-Err c =
    let f = c.args.entry.now in
    let groups = c.args.plan.now.groups in
    let asks = asks_of c.requires.last c.requires.is.2 in
    let free : refusal (DeletePacket c.args.g c.args.t (Fresh c.serial.result)) groups ≡ None = rw c.serial.ensures (last_free f (DeletePacket c.args.g c.args.t (Fresh f.0.0)) groups c.requires.last asks) in
    (elim c.in-Err.ensures.does.0 [ inl e ↦ e | inr e ↦ absurd (cc) ], refl, c.in-Err.ensures.does.1)
