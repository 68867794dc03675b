-- A strike is one change, and so is the way back.
-- Proves what standing edits are without one that no later edit depends on, but by standing after it: the others stand, taking it back gives what they make, and doing it again at the end gives what all make.
-- From moving it past the later edits, and from what an accepted edit keeps.
use Rattle.std.proofs.Common.{◌≡◌, ℕ, All, List, [], ◌∷◌, ◌++◌, refl, sym, ap, subst, ◌∙◌, ◌≢◌}
use Rattle.std.proofs.lemmas.List.Elements.{All-cons, All-head, All-tail, All-nil, All-push}
use Rattle.balise_rules.specs.Plan.{Plan}
use Rattle.balise_rules.specs.Edits.{Item}
use Rattle.balise_rules.specs.Notes.{noted}
use Rattle.balise_rules.specs.Doing.{done}
use Rattle.balise_rules.specs.Accepting.{Unused}
use Rattle.balise_rules.specs.Back.{back}
use Rattle.balise_rules.specs.Paths.{Entry}
use Rattle.balise_rules.specs.Session.{made, AllAccepted, entries}
use Rattle.balise_edit_laws.specs.TakenBack.{IsReady}
use Rattle.balise_edit_laws.specs.Along.{AllSpelt, AllUnused}
use Rattle.balise_edit_laws.proofs.TakingBack.{taking_back}
use Rattle.balise_edit_laws.proofs.SoundKept.{sound_kept}
use Rattle.balise_strike_laws.specs.Striking.{notes_of, Standing, StrikingUnder}
use Rattle.balise_strike_laws.proofs.Past.{Other, SameSerials, past}
use Rattle.std.proofs.lemmas.List.{map-append, append-nil}
use Rattle.balise_edit_laws.proofs.Histories.{still_unused}

pub first-ready : (base : Plan) → (e : Item) → (es : List Item) → Standing base (e ∷ es) → IsReady e base
first-ready base e es s = record { sound = s.sound; unused = s.unused.0; spelt = s.spelt.0; accepted = s.accepted.0 }

-- the edits after the first stand on what it makes
pub standing-after : (base : Plan) → (e : Item) → (es : List Item) → Standing base (e ∷ es) → Standing (done e base) es
standing-after base e es s =
    let r = first-ready base e es s in
    record { sound = sound_kept e base r; unused = still_unused e base r es s.unused.1 s.unused.2; spelt = s.spelt.1; accepted = s.accepted.1 }

pub standing-from : (base : Plan) → (before es : List Item) → Standing base (before ++ es) → Standing (made base before) es
standing-from base [] es s = s
standing-from base (b ∷ bs) es s = standing-from (done b base) bs es (standing-after base b (bs ++ es) s)

pub made-append : (base : Plan) → (before es : List Item) → made base (before ++ es) ≡ made (made base before) es
made-append base [] es = refl
made-append base (b ∷ bs) es = made-append (done b base) bs es

pub entries-append : (base : Plan) → (before es : List Item) → entries base (before ++ es) ≡ entries base before ++ entries (made base before) es
entries-append base [] es = refl
entries-append base (b ∷ bs) es = ap (λ l. (b, noted b.1 base) ∷ l) (entries-append (done b base) bs es)

-- the same serials without one, where later ones became others
others-same : (s : ℕ) → (es gs : List Item) → SameSerials es gs → All (Other s) es → All (Other s) gs
others-same s [] [] w n = n
others-same s (f ∷ fs) (g ∷ gs) w n = All-cons (Other s) g gs (λ q. All-head (Other s) f fs n (sym w.0 ∙ q)) (others-same s fs gs w.1 (All-tail (Other s) f fs n))
others-same s es gs w n = absurd w

unused-same : (base : Plan) → (es gs : List Item) → SameSerials es gs → AllUnused base es → AllUnused base gs
unused-same base [] [] w u = tt
unused-same base (f ∷ fs) (g ∷ gs) w u =
    (subst (λ i. Unused i base) (sym w.0) u.0, subst (λ i. All (Other i) gs) (sym w.0) (others-same f.0 fs gs w.1 u.1), unused-same base fs gs w.1 u.2)
unused-same base es gs w u = absurd w

others-drop : (s : ℕ) → (before : List Item) → (e : Item) → (after others : List Item) → SameSerials after others → All (Other s) (before ++ e ∷ after) →
    All (Other s) (before ++ others)
others-drop s [] e after others w n = others-same s after others w (All-tail (Other s) e after n)
others-drop s (b ∷ bs) e after others w n =
    All-cons (Other s) b (bs ++ others) (All-head (Other s) b (bs ++ e ∷ after) n) (others-drop s bs e after others w (All-tail (Other s) b (bs ++ e ∷ after) n))

unused-drop : (base : Plan) → (before : List Item) → (e : Item) → (after others : List Item) → SameSerials after others → AllUnused base (before ++ e ∷ after) →
    AllUnused base (before ++ others)
unused-drop base [] e after others w u = unused-same base after others w u.2
unused-drop base (b ∷ bs) e after others w u = (u.0, others-drop b.0 bs e after others w u.1, unused-drop base bs e after others w u.2)

spelt-join : (base : Plan) → (before es fs : List Item) → AllSpelt base (before ++ es) → AllSpelt (made base before) fs → AllSpelt base (before ++ fs)
spelt-join base [] es fs h k = k
spelt-join base (b ∷ bs) es fs h k = (h.0, spelt-join (done b base) bs es fs h.1 k)

accepted-join : (base : Plan) → (before es fs : List Item) → AllAccepted base (before ++ es) → AllAccepted (made base before) fs → AllAccepted base (before ++ fs)
accepted-join base [] es fs h k = k
accepted-join base (b ∷ bs) es fs h k = (h.0, accepted-join (done b base) bs es fs h.1 k)

pub striking_under : StrikingUnder
striking_under base before e after others s d =
    let w = standing-from base before (e ∷ after) s in
    let p = past e (made base before) after others (first-ready (made base before) e after w) w.unused.1 w.unused.2 w.spelt.1 w.accepted.1 d in
    let rest : made base (before ++ others) ≡ made (made base before) others = made-append base before others in
    let all : made base (before ++ e ∷ after) ≡ done e (made (made base before) others) = made-append base before (e ∷ after) ∙ sym p.same in
    record {
      standing = record {
        sound = s.sound;
        unused = unused-drop base before e after others p.serials s.unused;
        spelt = spelt-join base before (e ∷ after) others s.spelt p.spelt;
        accepted = accepted-join base before (e ∷ after) others s.accepted p.accepted;
      };
      notes = ap notes_of (entries-append base before others) ∙ map-append (λ (f : Entry). f.1) (entries base before) (entries (made base before) others)
          ∙ ap (λ l. notes_of (entries base before) ++ l) p.notes ∙ sym (map-append (λ (f : Entry). f.1) (entries base before) (entries (done e (made base before)) after));
      taken_back = ap (back e (noted e.1 (made base before))) all
          ∙ ap (λ m. back e m (done e (made (made base before) others))) (sym p.same_note)
          ∙ taking_back e (made (made base before) others) p.ready.sound p.ready.unused p.ready.accepted
          ∙ sym rest;
      again_ready = subst (IsReady e) (sym rest) p.ready;
      again_notes = ap (noted e.1) rest ∙ p.same_note;
      again = ap (done e) rest ∙ sym all;
    }

-- with one edit more at the end
unused-next : (base : Plan) → (x : Item) → Unused x.0 base → (es : List Item) → All (λ e. x.0 ≢ e.0) es → AllUnused base es → AllUnused base (es ++ x ∷ [])
unused-next base x n [] o u = (n, All-nil (λ f. f.0 ≢ x.0), tt)
unused-next base x n (e ∷ es) o u =
    (u.0, All-push (λ f. f.0 ≢ e.0) es x u.1 (All-head (λ f. x.0 ≢ f.0) e es o), unused-next base x n es (All-tail (λ f. x.0 ≢ f.0) e es o) u.2)

pub standing-next : (base : Plan) → (es : List Item) → (x : Item) → Standing base es → All (λ e. x.0 ≢ e.0) es → Unused x.0 base → IsReady x (made base es) → Standing base (es ++ x ∷ [])
standing-next base es x s o n r = record {
  sound = s.sound;
  unused = unused-next base x n es o s.unused;
  spelt = spelt-join base es [] (x ∷ []) (subst (AllSpelt base) (sym (append-nil es)) s.spelt) (r.spelt, tt);
  accepted = accepted-join base es [] (x ∷ []) (subst (AllAccepted base) (sym (append-nil es)) s.accepted) (r.accepted, tt);
}
