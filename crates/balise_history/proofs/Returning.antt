-- What putting the top of the stack back asks, and leaves: a redo, by one change.
-- From the law of redos in a session.
use Rattle.std.proofs.Common.{◌≡◌, ◌<◌, ◌∙◌, inl, ℕ, suc, All, List, ◌∷◌, ◌++◌, Some, length, take, drop, map, refl, sym, ap, subst, arith}
use Rattle.std.proofs.lemmas.List.{drop_at, length-take, take_at}
use Rattle.balise_rules.specs.declared.tag.Tag.TheVariants.{Fresh}
use Rattle.balise_rules.specs.Plan.{Plan}
use Rattle.balise_rules.specs.Edits.{Item}
use Rattle.balise_rules.specs.Notes.{Note, noted, without_content}
use Rattle.balise_rules.specs.Doing.{done}
use Rattle.balise_rules.specs.Paths.{Entry}
use Rattle.balise_rules.specs.Behind.{anchor_of, hung, serials_behind}
use Rattle.balise_rules.specs.Session.{State, Redo, Redone, made, entries, put_back, put_by_serial, answer_in_time}
use Rattle.balise_edit_laws.specs.TakenBack.{IsReady}
use Rattle.balise_edits.specs.Standing.{IsNext}
use Rattle.balise_strike_laws.specs.Striking.{notes_of}
use Rattle.balise_strike_laws.specs.InSession.{Rising, StruckHere, left_of}
use Rattle.balise_strike_laws.specs.Redoing.{Answer}
use Rattle.balise_strike_laws.specs.Sessions.{IsSession}
use Rattle.balise_strike_laws.proofs.SessionsKept.{sessions_kept}
use Rattle.balise_strike_laws.proofs.SessionStrikes.{striking_here}
use Rattle.balise_history.specs.Lists.{Gone, items_of, removed_of, place_of, entries_re_anchored, Ascends}
use Rattle.balise_history.specs.Held.{Holds, AllKept}
use Rattle.balise_history.proofs.Entries.{cut, items-entries, items-append, items-hung, notes-append, notes-hung, same-entries, hung-append, hung-low, below-items, all-above, behind-above, behind-ascends, rising-drop, place-of-found, place-cut, put-between, Above, above-hung}
use Rattle.balise_history.proofs.Taking.{held_state, rest-entries}

-- the entries with one more at a place, and those after it with another anchor
abbrev pub with_back : List Entry → ℕ → Gone → Plan → List Entry
with_back es n r groups = take n es ++ (r.0.0, noted r.0.0.1 groups) ∷ entries_re_anchored (Some (Fresh r.0.0.0)) r.1 (drop n es)

-- The top of the stack is the next one, and what is held with it is held.
pub record IsBack (base groups : Plan) (st : List Entry) (r : Gone) (rs : List Gone) (serial n : ℕ) : Type 0 where
  pub next : IsNext r.0 groups
  pub ascends : Ascends r.1
  pub standing : items_of (with_back st n r groups) ≡ put_back (removed_of r) (items_of st)
  pub holds : Holds base (done r.0.0 groups) (with_back st n r groups) rs serial

pub brought-back : (base groups : Plan) (st : List Entry) (r : Gone) (rs : List Gone) (serial n : ℕ) → Holds base groups st (r ∷ rs) serial → n ≡ place_of r.0.0.0 st → IsBack base groups st r rs serial n
brought-back base groups st r rs serial n h p =
    let items = items_of st in
    let it : Item = r.0.0 in
    let s : ℕ = it.0 in
    let a1 = Some (Fresh s) in
    let all : List Item = put_back (removed_of r) items in
    let w = h.session.redoable.0 in
    let E : List Entry = entries base all in
    let e : Entry = (it, w.note) in
    let here0 = striking_here base all s e w.standing w.found w.independent in
    let here1 : StruckHere base all e r.1 (left_of e r.1 all) = subst (λ (b : List ℕ). StruckHere base all e b (left_of e b all)) w.behind here0 in
    let here : StruckHere base all e r.1 items = subst (λ (l : List Item). StruckHere base all e r.1 l) w.left_is here1 in
    let up : Rising (items_of E) = subst Rising (sym (items-entries base all)) w.rising in
    let at = place-of-found s E e w.found in
    let k : ℕ = at.0 in
    let c = cut E k e up at.1 in
    let X = take k E in
    let Y = drop (suc k) E in
    let Z = entries_re_anchored (anchor_of it.1) r.1 Y in
    let same : serials_behind e Y ≡ r.1 = ap (serials_behind e) (sym c.behind) ∙ w.behind in
    let high : All (λ m. s < m) r.1 = subst (λ (b : List ℕ). All (λ m. s < m) b) same (behind-above e s Y c.high) in
    let asc : Ascends r.1 = subst Ascends same (behind-ascends e Y (rising-drop (suc k) E up)) in
    let st_is : X ++ Z ≡ st = rest-entries base all E k e r.1 items refl c high w.left_is here.notes ∙ sym h.noted_there in
    let z_high : Above s Z = above-hung s (anchor_of it.1) r.1 Y c.high in
    let len : length X ≡ k = let i = c.within in let j = length-take k E in omega arith in
    let place : n ≡ k = p ∙ ap (place_of s) (sym st_is) ∙ place-cut s X Z c.low z_high ∙ len in
    let before : take n st ≡ X = ap (λ m. take m st) place ∙ ap (take k) (sym st_is) ∙ take_at X Z k len in
    let after : drop n st ≡ Z = ap (λ m. drop m st) place ∙ ap (drop k) (sym st_is) ∙ drop_at X Z k len in
    let note : noted it.1 groups ≡ w.note = ap (noted it.1) h.made_of ∙ here.again_notes in
    let Z1 = entries_re_anchored a1 r.1 Z in
    let L : List Entry = with_back st n r groups in
    let L_is : L ≡ X ++ e ∷ Z1 = rw (before, after, note) refl in
    let IX = items_of X in
    let IZ = items_of Z in
    let is : items ≡ IX ++ IZ = ap items_of (sym st_is) ∙ items-append X Z in
    let hang : hung a1 r.1 items ≡ IX ++ items_of Z1 =
    ap (hung a1 r.1) is ∙ hung-append a1 r.1 IX IZ ∙ ap (λ (l : List Item). l ++ hung a1 r.1 IZ) (hung-low a1 s r.1 IX high (below-items s X c.low))
    ∙ ap (λ (l : List Item). IX ++ l) (sym (items-hung a1 r.1 Z)) in
    let all_is : all ≡ IX ++ it ∷ items_of Z1 = ap (put_by_serial it) hang ∙ put-between it IX (items_of Z1) (below-items s X c.low) (all-above s Z1 (above-hung s a1 r.1 Z z_high)) in
    let li : items_of L ≡ all = ap items_of L_is ∙ items-append X (e ∷ Z1) ∙ sym all_is in
    let notes : notes_of L ≡ notes_of E =
    ap notes_of L_is ∙ notes-append X (e ∷ Z1)
    ∙ ap (λ (l : List Note). notes_of X ++ w.note ∷ l) (notes-hung a1 r.1 Z ∙ notes-hung (anchor_of it.1) r.1 Y)
    ∙ sym (notes-append X (e ∷ Y)) ∙ ap notes_of (sym c.whole) in
    let L_E : L ≡ E = same-entries L E (li ∙ sym (items-entries base all)) notes in
    let state : State = held_state base st (r ∷ rs) serial in
    let new : State = record { base = base; standing = all; stack = map removed_of rs; serial = serial; count = 1 } in
    let a : ◌≡◌ {A = Answer} (Redone s, new) (answer_in_time Redo state) = refl in
    let kept = (sessions_kept Redo (Redone s) state new h.session (inl a)).0 in
    record {
      next = record {
        ready = subst (λ (g : Plan). IsReady it g) (sym h.made_of) here.again_ready;
        noted_there = ap (λ (g : Plan). without_content (noted it.1 g)) h.made_of ∙ h.kept.0;
      };
      ascends = asc;
      standing = li;
      holds = record {
        session = subst (λ (l : List Item). IsSession (record { base = base; standing = l; stack = map removed_of rs; serial = serial; count = 0 })) (sym li)
            (record { untagged = kept.untagged; first = kept.first; standing = kept.standing; redoable = kept.redoable; within = kept.within });
        noted_there = L_E ∙ ap (entries base) (sym li);
        made_of = ap (done it) h.made_of ∙ here.again ∙ ap (made base) (sym li);
        kept = subst (λ (l : List Item). AllKept base l rs) (sym li) h.kept.1;
      };
    }
