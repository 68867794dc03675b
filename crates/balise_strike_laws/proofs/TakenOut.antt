-- An edit that an undo or a strike takes out of the standing ones goes back to its own place.
-- Proves what is left where it was undone and where it was struck, and what a redo, or after it a strike, answers.
-- From the law of strikes in a session.
use Rattle.std.proofs.Common.{◌≡◌, ℕ, suc, eqb, List, [], ◌∷◌, ◌++◌, Some, None, refl, sym, ap, subst, ◌∙◌}
use Rattle.std.specs.Prelude.{find}
use Rattle.balise_rules.specs.Plan.{Plan}
use Rattle.balise_rules.specs.Edits.{Item}
use Rattle.balise_rules.specs.Notes.{noted}
use Rattle.balise_rules.specs.Paths.{Entry}
use Rattle.balise_rules.specs.Behind.{anchor_of, serials_behind, hung}
use Rattle.balise_rules.specs.Session.{State, Removed, lone, Redone, Struck, Redo, Strike, made, entries, last, later, others, first_dependent, put_back, taken_out, answer_in_time, answer_strike, answer_dependent}
use Rattle.balise_strike_laws.specs.Striking.{Standing}
use Rattle.balise_strike_laws.specs.InSession.{Rising, StruckHere, left_of}
use Rattle.balise_strike_laws.specs.Redoing.{WasStruck, Answer, counted, RedoingHere}
use Rattle.balise_strike_laws.proofs.SessionStrikes.{ends, hung-empty, later-there, found-at, found-there, striking_here, undoing_here}

-- `left` is what stands once r was taken out of the standing edits
pub record IsOut (base : Plan) (items : List Item) (r : Removed) (left : List Item) : Type 0 where
  pub standing : Standing base left
  pub own_place : put_back r left ≡ items
  pub was : WasStruck base items r left

-- what a strike puts on the stack
abbrev pub removed : Plan → List Item → Entry → Removed
removed base items e = record { item = e.0; behind = serials_behind e (later e.0.0 (entries base items)) }

pub out_struck : (base : Plan) → (items : List Item) → (m : ℕ) → (e : Entry) → Standing base items → Rising items →
    find (λ f. eqb m f.0.0) (entries base items) ≡ Some e → first_dependent e (later e.0.0 (entries base items)) ≡ None →
    IsOut base items (removed base items e) (left_of e (serials_behind e (later e.0.0 (entries base items))) items)
out_struck base items m e st ri f d =
    let w = striking_here base items m e st f d in
    record {
      standing = w.standing;
      own_place = w.own_place ri;
      was = record { standing = st; rising = ri; note = e.1; found = found-there base items m e f; independent = d; behind = refl; left_is = refl };
    }

-- the last edit is found under its serial, and none stands after it
last-at : (base : Plan) → (before : List Item) → (e : Item) → Standing base (before ++ e ∷ []) → Rising (before ++ e ∷ []) → WasStruck base (before ++ e ∷ []) (lone e) (others e.0 (before ++ e ∷ []))
last-at base before e st ri =
    let l : later e.0 (entries base (before ++ e ∷ [])) ≡ [] = later-there base before e [] st.unused base in
    let n = noted e.1 (made base before) in
    record {
      standing = st;
      rising = ri;
      note = n;
      found = found-at base before e [] st.unused base;
      independent = ap (first_dependent (e, n)) l;
      behind = ap (serials_behind (e, n)) l;
      left_is = hung-empty (anchor_of e.1) (others e.0 (before ++ e ∷ []));
    }

last-was : (base : Plan) → (items : List Item) → (e : Item) → Standing base items → Rising items → last items ≡ Some e → WasStruck base items (lone e) (others e.0 items)
last-was base items e st ri l =
    let w = ends items e l in
    subst (λ x. WasStruck base x (lone e) (others e.0 x)) (sym w.whole) (last-at base w.before e (subst (Standing base) w.whole st) (subst Rising w.whole ri))

pub out_undone : (base : Plan) → (items : List Item) → (e : Item) → Standing base items → Rising items → last items ≡ Some e → IsOut base items (lone e) (others e.0 items)
out_undone base items e st ri l =
    let w = undoing_here base items e st l in
    record { standing = w.standing; own_place = w.own_place ri; was = last-was base items e st ri l }

-- a redo puts it back
pub redo_after : (s : State) → (r : Removed) → (left : List Item) → IsOut s.base s.standing r left →
    ◌≡◌ {A = Answer} (answer_in_time Redo (taken_out s left r)) (Redone r.item.0, counted s (suc (suc s.count)))
redo_after s r left o = ap (λ l. (Redone r.item.0, record { base = s.base; standing = l; stack = s.stack; serial = s.serial; count = suc (suc s.count) })) o.own_place

-- a strike takes what was put back out again
pub strike_after : (u : State) → (r : Removed) → (left : List Item) → WasStruck u.base u.standing r left → ◌≡◌ {A = Answer} (answer_in_time (Strike r.item.0) u) (Struck r.item.0, taken_out u left r)
strike_after u r left w =
    let e : Entry = (r.item, w.note) in
    let fs = later r.item.0 (entries u.base u.standing) in
    ap (answer_strike u) w.found ∙ ap (answer_dependent u e fs) w.independent
    ∙ ap (λ b. (Struck r.item.0, taken_out u (hung (anchor_of r.item.1) b (others r.item.0 u.standing)) (record { item = r.item; behind = b }))) w.behind
    ∙ ap (λ l. (Struck r.item.0, taken_out u l r)) w.left_is

-- what was struck from what putting it back gives
pub redoing_here : RedoingHere
redoing_here base items r rs d =
    let w = d.0 in
    let all = put_back r items in
    let e : Entry = (r.item, w.note) in
    let h = striking_here base all r.item.0 e w.standing w.found w.independent in
    let left : left_of e r.behind all ≡ items = w.left_is in
    (w.note, subst (λ l. StruckHere base all e r.behind l) left (subst (λ b. StruckHere base all e b (left_of e b all)) w.behind h))
