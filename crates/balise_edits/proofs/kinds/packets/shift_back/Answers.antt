-- A packet put back where it was, which isn't refused.
use Rattle.std.proofs.Common.{◌≡◌, ◌∙◌, None, inl, inr, refl, ap}
use Rattle.balise_index.specs.declared.spot.Spot.TheVariants.{Before}
use Rattle.balise_plan.specs.Spots.{shift_refusal}
use Rattle.balise_edits.proofs.Bare.{asks_of}
use Rattle.balise_edits.proofs.Free.{shift_free}
use Rattle.balise_edits.proofs.kinds.packets.shift_back.Goals as goal

pub returns-in-Err : goal.returns-in-Err
returns-in-Err c =
    let f = c.args.entry.now in
    let groups = c.args.plan.now.groups in
    let asks = asks_of c.requires.last c.requires.is.1 in
    let before : c.before-before.result ≡ f.1.before = c.before-before.ensures ∙ ap (λ m. m.before) c.note.ensures in
    let free : shift_refusal c.args.g c.args.t c.args.p (Before c.before-before.result) groups ≡ None = rw before (shift_free c.args.g c.args.t c.args.p f.1.before groups asks) in
    (elim c.in-Err.ensures.shifts.0 [ inl e ↦ e | inr e ↦ absurd (cc) ], refl, c.in-Err.ensures.shifts.1)
