-- An edit that later ones are independent of, or stand after, moves past them to the end.
-- Proves, by induction over the later edits, that what they become is accepted without it and notes the same, and that it is accepted at the end, with its note, and gives the same plan.
-- From exchanging it with the next one, and from what an accepted edit keeps.
use Rattle.std.proofs.Common.{◌≡◌, ◌≢◌, ℕ, All, List, [], ◌∷◌, refl, sym, ap, subst, ◌∙◌}
use Rattle.std.proofs.lemmas.List.Elements.{All-head, All-tail}
use Rattle.balise_rules.specs.Plan.{Plan}
use Rattle.balise_rules.specs.Edits.{Item}
use Rattle.balise_rules.specs.Notes.{noted}
use Rattle.balise_rules.specs.Doing.{done}
use Rattle.balise_rules.specs.Session.{made, AllAccepted, entries}
use Rattle.balise_edit_laws.specs.TakenBack.{IsReady}
use Rattle.balise_edit_laws.specs.Along.{AllSpelt, AllUnused}
use Rattle.balise_edit_laws.proofs.SoundKept.{sound_kept}
use Rattle.balise_edit_laws.proofs.UnusedKept.{unused_kept}
use Rattle.balise_strike_laws.specs.Laws.{InTurn}
use Rattle.balise_strike_laws.specs.Striking.{AllBecome, notes_of}
use Rattle.balise_strike_laws.proofs.Exchanging.{exchange}
use Rattle.balise_edit_laws.proofs.Histories.{still_unused}

-- another edit's serial
abbrev pub Other : ℕ → Item → Type 0
Other s f = f.0 ≢ s

-- the same serials, one for one
abbrev pub SameSerials : List Item → List Item → Type 0
SameSerials [] [] = Unit {0}
SameSerials (f ∷ fs) (g ∷ gs) = (g.0 ≡ f.0) × SameSerials fs gs
SameSerials fs gs = ⊥

-- what moving e past later edits leaves, which become others
pub record Past (e : Item) (plan : Plan) (es others : List Item) : Type 0 where
  pub serials : SameSerials es others
  pub accepted : AllAccepted plan others
  pub spelt : AllSpelt plan others
  pub notes : notes_of (entries plan others) ≡ notes_of (entries (done e plan) es)
  pub ready : IsReady e (made plan others)
  pub same_note : noted e.1 (made plan others) ≡ noted e.1 plan
  pub same : done e (made plan others) ≡ made (done e plan) es

pub past : (e : Item) → (plan : Plan) → (es others : List Item) → IsReady e plan → All (Other e.0) es → AllUnused plan es → AllSpelt (done e plan) es →
    AllAccepted (done e plan) es →
    AllBecome (e, noted e.1 plan) (entries (done e plan) es) others → Past e plan es others
past e plan [] [] r o u h a d = record { serials = tt; accepted = tt; spelt = tt; notes = refl; ready = r; same_note = refl; same = refl }
past e plan (f ∷ fs) (g ∷ gs) r o u h a d =
    let turn : InTurn e f plan = record { sound = r.sound; first_unused = r.unused; second_unused = u.0; first_accepted = r.accepted; second_accepted = a.0 } in
    let c = exchange e f plan turn r.spelt h.0 g d.0 in
    let n : e.0 ≢ g.0 = λ q. All-head (Other e.0) f fs o (sym (q ∙ c.serial)) in
    let r1 : IsReady e (done g plan) = record { sound = sound_kept g plan c.first; unused = unused_kept g plan c.first e.0 n r.unused; spelt = c.second_spelt; accepted = c.second } in
    let u1 = still_unused g plan c.first fs (subst (λ s. All (Other s) fs) (sym c.serial) u.1) u.2 in
    let h1 : AllSpelt (done e (done g plan)) fs = subst (λ p. AllSpelt p fs) c.same_plan h.1 in
    let a1 : AllAccepted (done e (done g plan)) fs = subst (λ p. AllAccepted p fs) c.same_plan a.1 in
    let d1 : AllBecome (e, noted e.1 (done g plan)) (entries (done e (done g plan)) fs) gs =
    subst (λ m. AllBecome (e, m) (entries (done e (done g plan)) fs) gs) (sym c.second_notes) (subst (λ p. AllBecome (e, noted e.1 plan) (entries p fs) gs) c.same_plan d.1) in
    let q = past e (done g plan) fs gs r1 (All-tail (Other e.0) f fs o) u1 h1 a1 d1 in
    record {
      serials = (c.serial, q.serials);
      accepted = (c.first.accepted, q.accepted);
      spelt = (c.first.spelt, q.spelt);
      notes = ap (λ m. m ∷ notes_of (entries (done g plan) gs)) c.first_notes ∙ ap (λ l. noted f.1 (done e plan) ∷ l) (q.notes ∙ ap (λ p. notes_of (entries p fs)) (sym c.same_plan));
      ready = q.ready;
      same_note = q.same_note ∙ c.second_notes;
      same = q.same ∙ ap (λ p. made p fs) (sym c.same_plan);
    }
past e plan es others r o u h a d = absurd d
