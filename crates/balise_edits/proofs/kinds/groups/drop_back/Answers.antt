-- A group that was taken out goes back into its place, which isn't refused; where memory is wanting, the entry gets it back.
use Rattle.std.proofs.Common.{◌≡◌, ◌∙◌, None, Some, inl, inr, ap, subst, sym}
use Rattle.balise_rules.specs.Plan.{IsSound}
use Rattle.balise_rules.specs.Paths.{Entry}
use Rattle.balise_edits.specs.Notes.{with_group}
use Rattle.balise_edit_laws.specs.GoesBack.{LacksGroup}
use Rattle.balise_edit_laws.proofs.SoundKept.{sound_kept}
use Rattle.balise_index.specs.declared.spot.Spot.TheVariants.{Before}
use Rattle.balise_plan.specs.Spots.{group_refusal}
use Rattle.balise_edits.proofs.Free.{group_free}
use Rattle.balise_edits.proofs.TakingBack.{lacks_of}
use Rattle.balise_edits.proofs.kinds.groups.drop_back.Goals as goal

pub put_group-requires-clause-new : goal.put_group-requires-clause-new
put_group-requires-clause-new c = (lacks_of c.requires.last c.requires.is c.in-Some.ensures.taken).gone

pub returns-in-Err : goal.returns-in-Err
returns-in-Err c =
    let f = c.args.entry.now in
    let groups = c.args.plan.now.groups in
    let last = c.requires.last in
    let before : c.before-before.result ≡ f.1.before = c.before-before.ensures ∙ ap (λ m. m.before) c.note.ensures in
    let lacks : LacksGroup c.args.g c.in-Some.group c.before-before.result groups = rw before (lacks_of c.requires.last c.requires.is c.in-Some.ensures.taken) in
    let sound : IsSound groups = subst IsSound (sym last.made) (sound_kept f.0 last.before last.ready) in
    let free : group_refusal (Before c.before-before.result) c.in-Some.group groups ≡ None = group_free c.args.g c.in-Some.group c.before-before.result groups sound lacks in
    let kept : c.keep_group.new.self ≡ f = c.keep_group.ensures ∙ ap (λ (h : Entry). (h.0, with_group (Some c.in-Err.group) h.1)) c.take_group.ensures.left
    ∙ ap (λ q. (f.0, with_group q f.1)) (ap Some c.in-Err.ensures.1 ∙ c.in-Some.ensures.taken) in
    (elim c.in-Err.ensures.0 [ inl e ↦ e | inr e ↦ absurd (cc) ], kept, c.in-Err.ensures.2)
