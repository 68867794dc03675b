-- A packet that was taken out goes back into its place, which isn't refused; where memory is wanting, the entry gets it back.
use Rattle.std.proofs.Common.{◌≡◌, ◌∙◌, None, Some, inl, inr, ap, subst, sym}
use Rattle.balise_rules.specs.Packet.{IsSpelt}
use Rattle.balise_rules.specs.Tagged.{find}
use Rattle.balise_rules.specs.Tags.{same_tag}
use Rattle.balise_rules.specs.Telegram.{Telegram, version_of}
use Rattle.balise_rules.specs.Paths.{Entry}
use Rattle.balise_edits.specs.Notes.{with_packet}
use Rattle.balise_rules.proofs.Cases.{unsome}
use Rattle.balise_edit_laws.specs.GoesBack.{HasGap}
use Rattle.balise_index.specs.declared.spot.Spot.TheVariants.{Before}
use Rattle.balise_plan.specs.Spots.{put_refusal}
use Rattle.balise_edits.proofs.Free.{packet_free}
use Rattle.balise_edits.proofs.TakingBack.{gap_of}
use Rattle.balise_edits.proofs.kinds.packets.delete_back.Goals as goal

pub put_packet-requires-clause-new : goal.put_packet-requires-clause-new
put_packet-requires-clause-new c y is =
    let gap = gap_of c.requires.last c.requires.is c.in-Some.ensures.taken in
    subst (λ (z : Telegram). find same_tag c.args.p z.packets ≡ None) (unsome (sym gap.stands ∙ is)) gap.gone

pub put_packet-requires-clause-spelt : goal.put_packet-requires-clause-spelt
put_packet-requires-clause-spelt c y is =
    let gap = gap_of c.requires.last c.requires.is c.in-Some.ensures.taken in
    subst (λ (z : Telegram). IsSpelt (version_of z) c.in-Some.packet) (unsome (sym gap.stands ∙ is)) gap.spelt

pub returns-in-Err : goal.returns-in-Err
returns-in-Err c =
    let f = c.args.entry.now in
    let groups = c.args.plan.now.groups in
    let before : c.before-before.result ≡ f.1.before = c.before-before.ensures ∙ ap (λ m. m.before) c.note.ensures in
    let gap : HasGap c.args.g c.args.t c.args.p c.in-Some.packet c.before-before.result groups = rw before (gap_of c.requires.last c.requires.is c.in-Some.ensures.taken) in
    let free : put_refusal c.args.g c.args.t (Before c.before-before.result) c.in-Some.packet groups ≡ None = packet_free c.args.g c.args.t c.args.p c.in-Some.packet c.before-before.result groups gap in
    let kept : c.keep_packet.new.self ≡ f = c.keep_packet.ensures ∙ ap (λ (h : Entry). (h.0, with_packet (Some c.in-Err.packet) h.1)) c.take_packet.ensures.left
    ∙ ap (λ q. (f.0, with_packet q f.1)) (ap Some c.in-Err.ensures.1 ∙ c.in-Some.ensures.taken) in
    (elim c.in-Err.ensures.0 [ inl e ↦ e | inr e ↦ absurd (cc) ], kept, c.in-Err.ensures.2)
