-- An edit that was done is the last one; taken back, it is the next one; and other serials are as new as they were.
use Rattle.std.proofs.Common.{◌≡◌, ◌∙◌, ◌+◌, ◌≤◌, ℕ, None, Ok, refl, sym, ap, subst, arith}
use Rattle.balise_rules.specs.Accepting.{Spelt, Unused}
use Rattle.balise_rules.specs.Back.{back}
use Rattle.balise_rules.specs.Doing.{done, refusal}
use Rattle.balise_rules.specs.Edits.{Item}
use Rattle.balise_rules.specs.Notes.{noted, without_content}
use Rattle.balise_rules.specs.Paths.{Entry}
use Rattle.balise_rules.specs.Plan as rules
use Rattle.balise_rules.specs.Plan.{IsSound}
use Rattle.balise_edit_laws.specs.TakenBack.{IsReady}
use Rattle.balise_edit_laws.proofs.Refusing.{refused_exactly}
use Rattle.balise_edit_laws.proofs.UnusedKept.{unused_kept}
use Rattle.balise_plan.specs.Held.{Plan}
use Rattle.balise_edits.specs.Standing.{Applies, IsLast, IsNext, changed_to}
use Rattle.balise_edits.proofs.Standing.{last_back}

ready : (e : Item) (plan : rules.Plan) → IsSound plan → Unused e.0 plan → Spelt e.1 plan → refusal e.1 plan ≡ None → IsReady e plan
ready e plan sound unused spelt free = record { sound = sound; unused = unused; spelt = spelt; accepted = (refused_exactly e.1 plan sound).0 free }

pub last_of : (e : Item) (old : Plan) (f : Entry) (new : Plan) → IsSound old.groups → Unused e.0 old.groups → Spelt e.1 old.groups → Applies e old (Ok f) new → IsLast f new.groups
last_of e old f new sound unused spelt d =
    let l : IsLast (e, noted e.1 old.groups) (done e old.groups) = record { before = old.groups; ready = ready e old.groups sound unused spelt d.0; noted_there = refl; made = refl } in
    subst (λ q. IsLast f q) (sym (ap (λ (q : Plan). q.groups) d.2)) (subst (λ g. IsLast g (done e old.groups)) (sym d.1) l)

pub next_of : (e : Item) (old : Plan) (f : Entry) (new : Plan) (g : Entry) (taken : Plan) → IsSound old.groups → Unused e.0 old.groups → Spelt e.1 old.groups → Applies e old (Ok f) new →
    taken ≡ changed_to (back f.0 f.1 new.groups) new → g ≡ (f.0, without_content f.1) → IsNext g taken.groups
next_of e old f new g taken sound unused spelt d t h =
    let l = last_of e old f new sound unused spelt d in
    let same : taken.groups ≡ old.groups = ap (λ (q : Plan). q.groups) t ∙ ap (λ (x : Entry). back x.0 x.1 new.groups) d.1 ∙ ap (λ q. back e (noted e.1 old.groups) q) (ap (λ (q : Plan). q.groups) d.2) ∙ undone in
    let n : IsNext (e, without_content (noted e.1 old.groups)) old.groups = record { ready = ready e old.groups sound unused spelt d.0; noted_there = refl } in
    subst (λ q. IsNext g q) (sym same) (subst (λ x. IsNext x old.groups) (sym (h ∙ ap (λ (x : Entry). (x.0, without_content x.1)) d.1)) n)
  where
    undone : back e (noted e.1 old.groups) (done e old.groups) ≡ old.groups
    undone = last_back (e, noted e.1 old.groups) (done e old.groups) (record { before = old.groups; ready = ready e old.groups sound unused spelt d.0; noted_there = refl; made = refl })

-- what was put back is what the edit made
pub again_of : (e : Item) (old : Plan) (f : Entry) (new : Plan) (g : Entry) (taken : Plan) (last : Plan) → IsSound old.groups → Unused e.0 old.groups → Spelt e.1 old.groups → Applies e old (Ok f) new →
    taken ≡ changed_to (back f.0 f.1 new.groups) new → g ≡ (f.0, without_content f.1) → last ≡ changed_to (done g.0 taken.groups) taken → (n : ℕ) → e.0 + 1 ≤ n → Unused n old.groups → Unused n last.groups
again_of e old f new g taken last sound unused spelt d t h m n more new_n =
    let item : g.0 ≡ e = ap (λ (x : Entry). x.0) h ∙ ap (λ (x : Entry). x.0) d.1 in
    let same : taken.groups ≡ old.groups = ap (λ (q : Plan). q.groups) t ∙ ap (λ (x : Entry). back x.0 x.1 new.groups) d.1 ∙ ap (λ q. back e (noted e.1 old.groups) q) (ap (λ (q : Plan). q.groups) d.2) ∙ undone in
    let made : last.groups ≡ done e old.groups = ap (λ (q : Plan). q.groups) m ∙ ap (λ i. done i taken.groups) item ∙ ap (done e) same in
    subst (λ q. Unused n q) (sym made) (unused_kept e old.groups (ready e old.groups sound unused spelt d.0) n (λ w. absurd (omega (arith, more, w))) new_n)
  where
    undone : back e (noted e.1 old.groups) (done e old.groups) ≡ old.groups
    undone = last_back (e, noted e.1 old.groups) (done e old.groups) (record { before = old.groups; ready = ready e old.groups sound unused spelt d.0; noted_there = refl; made = refl })

-- what is unused before an edit stays so, but for its own serial
pub made_of : (e : Item) (old : Plan) (f : Entry) (new : Plan) → IsSound old.groups → Unused e.0 old.groups → Spelt e.1 old.groups → Applies e old (Ok f) new →
    (n : ℕ) → e.0 + 1 ≤ n → Unused n old.groups → Unused n new.groups
made_of e old f new sound unused spelt d n more new_n =
    subst (λ (q : Plan). Unused n q.groups) (sym d.2) (unused_kept e old.groups (ready e old.groups sound unused spelt d.0) n (λ w. absurd (omega (arith, more, w))) new_n)
