-- What is held with one more entry after those that stand.
use Rattle.std.proofs.Common.{◌≡◌, ◌≤◌, ◌∙◌, ℕ, List, [], ◌∷◌, ◌++◌, map, refl, sym, ap, subst}
use Rattle.balise_rules.specs.Accepting.{Unused}
use Rattle.balise_rules.specs.Plan.{Plan, IsSound}
use Rattle.balise_rules.specs.Edits.{Item}
use Rattle.balise_rules.specs.Notes.{noted}
use Rattle.balise_rules.specs.Doing.{done}
use Rattle.balise_rules.specs.Paths.{Entry}
use Rattle.balise_rules.specs.Session.{made, entries}
use Rattle.balise_strike_laws.specs.Sessions.{IsSession}
use Rattle.balise_strike_laws.proofs.SessionsKept.{plans_made}
use Rattle.balise_history.specs.Lists.{Gone, items_of, removed_of}
use Rattle.balise_history.specs.Held.{Holds}
use Rattle.balise_history.proofs.Entries.{items-append}

made-next : (plan : Plan) (es : List Item) (e : Item) → made plan (es ++ e ∷ []) ≡ done e (made plan es)
made-next plan [] e = refl
made-next plan (f ∷ fs) e = made-next (done f plan) fs e

entries-next : (plan : Plan) (es : List Item) (e : Item) → entries plan (es ++ e ∷ []) ≡ entries plan es ++ (e, noted e.1 (made plan es)) ∷ []
entries-next plan [] e = refl
entries-next plan (f ∷ fs) e = ap (λ l. (f, noted f.1 plan) ∷ l) (entries-next (done f plan) fs e)

-- the edit is the last one then, if those edits are of a session
pub added : (base groups : Plan) (st : List Entry) (sk : List Gone) (serial next : ℕ) (e : Item) → Holds base groups st sk serial →
    IsSession (record { base = base; standing = items_of st ++ e ∷ []; stack = []; serial = next; count = 0 }) → Holds base (done e groups) (st ++ (e, noted e.1 groups) ∷ []) [] next
added base groups st sk serial next e h s =
    let f : Entry = (e, noted e.1 groups) in
    let is : items_of (st ++ f ∷ []) ≡ items_of st ++ e ∷ [] = items-append st (f ∷ []) in
    record {
      session = subst (λ (l : List Item). IsSession (record { base = base; standing = l; stack = []; serial = next; count = 0 })) (sym is) s;
      noted_there =
          ap (λ (l : List Entry). l ++ f ∷ []) h.noted_there
          ∙ ap (λ (g : Plan). entries base (items_of st) ++ (e, noted e.1 g) ∷ []) h.made_of
          ∙ sym (entries-next base (items_of st) e) ∙ ap (entries base) (sym is);
      made_of = ap (done e) h.made_of ∙ sym (made-next base (items_of st) e) ∙ ap (made base) (sym is);
      kept = tt;
    }

-- the plan that is held is what a session's standing edits make
pub plan-made : (base groups : Plan) (st : List Entry) (sk : List Gone) (serial : ℕ) → Holds base groups st sk serial → IsSound groups × ((n : ℕ) → serial ≤ n → Unused n groups)
plan-made base groups st sk serial h =
    let m = plans_made (record { base = base; standing = items_of st; stack = map removed_of sk; serial = serial; count = 0 }) h.session in
    (subst IsSound (sym h.made_of) m.sound, λ n l. subst (Unused n) (sym h.made_of) (m.unused n l))
