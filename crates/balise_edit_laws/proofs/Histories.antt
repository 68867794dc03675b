-- The laws of keeping and taking back, along a list of edits.
-- From the laws for one edit, by induction over the list.
-- A serial stays new until its own edit is done.
use Rattle.std.proofs.Common.{◌≡◌, ◌≢◌, ℕ, All, List, [], ◌∷◌, refl, ap, ◌∙◌}
use Rattle.std.proofs.lemmas.List.Elements.{All-head, All-tail}
use Rattle.balise_rules.specs.Plan.{Plan, IsSound}
use Rattle.balise_rules.specs.Notes.{noted}
use Rattle.balise_rules.specs.Doing.{done}
use Rattle.balise_rules.specs.Accepting.{Unused}
use Rattle.balise_rules.specs.Edits.{Item}
use Rattle.balise_rules.specs.Back.{back}
use Rattle.balise_rules.specs.Session.{made, entries, AllAccepted}
use Rattle.balise_edit_laws.specs.TakenBack.{IsReady}
use Rattle.balise_edit_laws.specs.Along.{AllReady, AllSpelt, AllUnused, back_along}
use Rattle.balise_edit_laws.proofs.TakingBack.{taking_back}
use Rattle.balise_edit_laws.proofs.SoundKept.{sound_kept}
use Rattle.balise_edit_laws.proofs.UnusedKept.{unused_kept}

pub still_unused : (e : Item) → (plan : Plan) → IsReady e plan → (es : List Item) → All (λ f. f.0 ≢ e.0) es → AllUnused plan es → AllUnused (done e plan) es
still_unused e plan r [] n u = tt
still_unused e plan r (f ∷ fs) n u =
    (unused_kept e plan r f.0 (All-head (λ x. x.0 ≢ e.0) f fs n) u.0, u.1, still_unused e plan r fs (All-tail (λ x. x.0 ≢ e.0) f fs n) u.2)

pub kept_along : (es : List Item) → (plan : Plan) → IsSound plan → AllUnused plan es → AllSpelt plan es → AllAccepted plan es →
    AllReady plan es × IsSound (made plan es) × ((s : ℕ) → All (λ e. s ≢ e.0) es → Unused s plan → Unused s (made plan es))
kept_along [] plan sound u p a = (tt, sound, λ s n w. w)
kept_along (e ∷ es) plan sound u p a =
    let r : IsReady e plan = record { sound = sound; unused = u.0; spelt = p.0; accepted = a.0 } in
    let more = kept_along es (done e plan) (sound_kept e plan r) (still_unused e plan r es u.1 u.2) p.1 a.1 in
    ((r, more.0), more.1, λ s n w. more.2 s (All-tail (λ x. s ≢ x.0) e es n) (unused_kept e plan r s (All-head (λ x. s ≢ x.0) e es n) w))

pub taken_back_along : (es : List Item) → (plan : Plan) → AllReady plan es → back_along (entries plan es) (made plan es) ≡ plan
taken_back_along [] plan r = refl
taken_back_along (e ∷ es) plan r =
    ap (back e (noted e.1 plan)) (taken_back_along es (done e plan) r.1) ∙ taking_back e plan r.0.sound r.0.unused r.0.accepted
