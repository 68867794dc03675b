-- What taking an entry out of the standing ones asks, and leaves: an undo or a strike, by one change.
-- From the law of strikes in a session.
use Rattle.std.proofs.Common.{◌≡◌, ◌<◌, ◌∙◌, inl, ℕ, suc, All, eqb, List, ◌∷◌, ◌++◌, Some, None, take, drop, map, filter, not, find, slice_get, refl, sym, ap, subst}
use Rattle.balise_rules.specs.Plan.{Plan}
use Rattle.balise_rules.specs.Edits.{Item}
use Rattle.balise_rules.specs.Notes.{without_content}
use Rattle.balise_rules.specs.Back.{back}
use Rattle.balise_rules.specs.Paths.{Entry}
use Rattle.balise_rules.specs.Behind.{anchor_of, hung, serials_behind}
use Rattle.balise_rules.specs.Session.{State, Removed, Strike, Struck, made, entries, later, first_dependent, put_back, answer_in_time}
use Rattle.balise_edit_laws.specs.Along.{back_along}
use Rattle.balise_edit_laws.proofs.Histories.{kept_along, taken_back_along}
use Rattle.balise_edits.specs.Standing.{IsLast}
use Rattle.balise_strike_laws.specs.Striking.{notes_of}
use Rattle.balise_strike_laws.specs.InSession.{Rising, StruckHere, left_of}
use Rattle.balise_strike_laws.specs.Redoing.{Answer}
use Rattle.balise_strike_laws.specs.Sessions.{IsSession}
use Rattle.balise_strike_laws.proofs.SessionStrikes.{striking_here}
use Rattle.balise_strike_laws.proofs.SessionsKept.{rises, sessions_kept}
use Rattle.balise_history.specs.Lists.{Gone, items_of, removed_of, entries_re_anchored, Ascends}
use Rattle.balise_history.specs.Held.{Holds, IsHeld, AllKept}
use Rattle.balise_history.proofs.Entries.{Cut, cut, other-items, items-entries, items-append, items-hung, notes-append, notes-hung, same-entries, hung-append, hung-low, below-items, behind-above, behind-ascends, rising-drop}

-- the plan first read, from what is held
pub own-base : (base groups : Plan) (st : List Entry) (sk : List Gone) (n : ℕ) → Holds base groups st sk n → back_along st groups ≡ base
own-base base groups st sk n h =
    let is = items_of st in
    let s = h.session.standing in
    let ready = (kept_along is base s.sound s.unused s.spelt s.accepted).0 in
    ap (λ (es : List Entry). back_along es groups) h.noted_there ∙ ap (back_along (entries base is)) h.made_of ∙ taken_back_along is base ready

pub own-held : (base groups : Plan) (st : List Entry) (sk : List Gone) (n : ℕ) → Holds base groups st sk n → IsHeld groups st sk n
own-held base groups st sk n h = subst (λ (b : Plan). Holds b groups st sk n) (sym (own-base base groups st sk n h)) h

-- the state that is held, after none counted
abbrev pub held_state : Plan → List Entry → List Gone → ℕ → State
held_state base st sk n = record { base = base; standing = items_of st; stack = map removed_of sk; serial = n; count = 0 }

pub rising : (base groups : Plan) (st : List Entry) (sk : List Gone) (n : ℕ) → Holds base groups st sk n → Rising (items_of st)
rising base groups st sk n h = rises (held_state base st sk n) h.session

-- the entries before a place, and those after it with another anchor
abbrev pub rest_of : List Entry → ℕ → Entry → List ℕ → List Entry
rest_of es n e serials = take n es ++ entries_re_anchored (anchor_of e.0.1) serials (drop (suc n) es)

pub rest-items : (es : List Entry) (n : ℕ) (e : Entry) (B : List ℕ) → Cut es n e → All (λ m. e.0.0 < m) B → items_of (rest_of es n e B) ≡ left_of e B (items_of es)
rest-items es n e B c h =
    let a = anchor_of e.0.1 in
    let X = items_of (take n es) in
    let Y = items_of (drop (suc n) es) in
    items-append (take n es) (entries_re_anchored a B (drop (suc n) es))
    ∙ ap (λ l. X ++ l) (items-hung a B (drop (suc n) es))
    ∙ ap (λ l. l ++ hung a B Y) (sym (hung-low a e.0.0 B X h (below-items e.0.0 (take n es) c.low)))
    ∙ sym (hung-append a B X Y)
    ∙ ap (hung a B) (sym (other-items es n e c))

pub rest-notes : (es : List Entry) (n : ℕ) (e : Entry) (B : List ℕ) → Cut es n e → notes_of (rest_of es n e B) ≡ notes_of (filter (λ (f : Entry). not (eqb f.0.0 e.0.0)) es)
rest-notes es n e B c =
    let a = anchor_of e.0.1 in
    notes-append (take n es) (entries_re_anchored a B (drop (suc n) es))
    ∙ ap (λ l. notes_of (take n es) ++ l) (notes-hung a B (drop (suc n) es))
    ∙ sym (notes-append (take n es) (drop (suc n) es))
    ∙ ap notes_of (sym c.rest)

-- what is left where an entry was struck
pub rest-entries : (base : Plan) (items : List Item) (es : List Entry) (n : ℕ) (e : Entry) (B : List ℕ) (left : List Item) → es ≡ entries base items → Cut es n e → All (λ m. e.0.0 < m) B →
    left_of e B items ≡ left → notes_of (entries base left) ≡ notes_of (filter (λ (f : Entry). not (eqb f.0.0 e.0.0)) (entries base items)) → rest_of es n e B ≡ entries base left
rest-entries base items es n e B left q c h l m =
    let is : items_of es ≡ items = ap items_of q ∙ items-entries base items in
    same-entries (rest_of es n e B) (entries base left)
    (rest-items es n e B c h ∙ ap (left_of e B) is ∙ l ∙ sym (items-entries base left))
    (rest-notes es n e B c ∙ ap (λ (fs : List Entry). notes_of (filter (λ (f : Entry). not (eqb f.0.0 e.0.0)) fs)) q ∙ sym m)

-- The entry at a place is found under its serial, was the last one but for those after it, and what is held without it is held.
pub record IsOut (base groups : Plan) (st : List Entry) (sk : List Gone) (serial n : ℕ) (e : Entry) (B : List ℕ) : Type 0 where
  pub found : find (λ (f : Entry). eqb e.0.0 f.0.0) (entries base (items_of st)) ≡ Some e
  pub later_are : later e.0.0 (entries base (items_of st)) ≡ drop (suc n) st
  pub last : IsLast e groups
  pub ascends : Ascends B
  pub left : items_of (rest_of st n e B) ≡ left_of e B (items_of st)
  pub holds : Holds base (back e.0 e.1 groups) (rest_of st n e B) (((e.0, without_content e.1), B) ∷ sk) serial

-- what is found under its serial
pub record IsThere (base : Plan) (st : List Entry) (n : ℕ) (e : Entry) : Type 0 where
  pub cut_there : Cut st n e
  pub found : find (λ (f : Entry). eqb e.0.0 f.0.0) (entries base (items_of st)) ≡ Some e
  pub later_are : later e.0.0 (entries base (items_of st)) ≡ drop (suc n) st

pub there : (base groups : Plan) (st : List Entry) (sk : List Gone) (serial n : ℕ) (e : Entry) → Holds base groups st sk serial → slice_get st n ≡ Some e → IsThere base st n e
there base groups st sk serial n e h g =
    let c = cut st n e (rising base groups st sk serial h) g in
    record {
      cut_there = c;
      found = ap (find (λ (f : Entry). eqb e.0.0 f.0.0)) (sym h.noted_there) ∙ c.found;
      later_are = ap (later e.0.0) (sym h.noted_there) ∙ c.behind;
    }

pub taken-out : (base groups : Plan) (st : List Entry) (sk : List Gone) (serial n : ℕ) (e : Entry) → Holds base groups st sk serial → slice_get st n ≡ Some e → first_dependent e (drop (suc n) st) ≡ None →
    IsOut base groups st sk serial n e (serials_behind e (drop (suc n) st))
taken-out base groups st sk serial n e h g d =
    let s : State = held_state base st sk serial in
    let is = items_of st in
    let t = there base groups st sk serial n e h g in
    let c = t.cut_there in
    let up = rising base groups st sk serial h in
    let fs = drop (suc n) st in
    let B = serials_behind e fs in
    let left = left_of e B is in
    let d1 : first_dependent e (later e.0.0 (entries base is)) ≡ None = ap (first_dependent e) t.later_are ∙ d in
    let here0 = striking_here base is e.0.0 e h.session.standing t.found d1 in
    let here : StruckHere base is e B left = subst (λ (l : List Entry). StruckHere base is e (serials_behind e l) (left_of e (serials_behind e l) is)) t.later_are here0 in
    let high : All (λ m. e.0.0 < m) B = behind-above e e.0.0 fs c.high in
    let rest : rest_of st n e B ≡ entries base left = rest-entries base is st n e B left h.noted_there c high refl here.notes in
    let ri : items_of (rest_of st n e B) ≡ left = rest-items st n e B c high in
    let r : Removed = record { item = e.0; behind = B } in
    let new : State = record { base = base; standing = left; stack = r ∷ map removed_of sk; serial = serial; count = 1 } in
    let a : ◌≡◌ {A = Answer} (Struck e.0.0, new) (answer_in_time (Strike e.0.0) s) = rw (t.found, t.later_are, d) refl in
    let k : IsSession new = (sessions_kept (Strike e.0.0) (Struck e.0.0) s new h.session (inl a)).0 in
    let held : Plan = back e.0 e.1 groups in
    let m : held ≡ made base left = ap (back e.0 e.1) h.made_of ∙ here.taken_back in
    let own : put_back r left ≡ is = here.own_place up in
    let kept : AllKept base left (((e.0, without_content e.1), B) ∷ sk) =
    (ap without_content here.again_notes, subst (λ (l : List Item). AllKept base l sk) (sym own) h.kept) in
    record {
      found = t.found;
      later_are = t.later_are;
      last = record { before = made base left; ready = here.again_ready; noted_there = here.again_notes; made = h.made_of ∙ sym here.again };
      ascends = behind-ascends e fs (rising-drop (suc n) st up);
      left = ri;
      holds = record {
        session = subst (λ (l : List Item). IsSession (record { base = base; standing = l; stack = r ∷ map removed_of sk; serial = serial; count = 0 })) (sym ri)
            (record { untagged = k.untagged; first = k.first; standing = k.standing; redoable = k.redoable; within = k.within });
        noted_there = rest ∙ ap (entries base) (sym ri);
        made_of = m ∙ ap (made base) (sym ri);
        kept = subst (λ (l : List Item). AllKept base l (((e.0, without_content e.1), B) ∷ sk)) (sym ri) kept;
      };
    }

-- the serials of what stands rise
pub rising-standing : (groups : Plan) (st : List Entry) (sk : List Gone) (n : ℕ) → IsHeld groups st sk n → Rising (items_of st)
rising-standing groups st sk n h = rising (back_along st groups) groups st sk n h
