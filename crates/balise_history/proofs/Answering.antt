-- What each call answers and leaves, over the values that are held.
use Rattle.std.proofs.Common.{Option, Bool, true, false, not, IsTrue, ◌≡◌, ◌+◌, ◌∙◌, inl, inr, ℕ, zero, suc, eqb, List, [], ◌∷◌, ◌++◌, Some, None, Ok, length, drop, map, find, slice_get, refl, sym, ap, subst, arith, add-one, Result, Err}
use Rattle.std.proofs.lemmas.Grind.{common_steps}
use Rattle.balise_rules.specs.declared.tag.Tag.TheVariants.{Base}
use Rattle.balise_rules.specs.declared.refusal.Refusal.{Refusal}
use Rattle.balise_rules.specs.declared.refusal.Refusal.TheVariants.{OutOfMemory, NoSuchEdit, DependsOn}
use Rattle.balise_rules.specs.Plan as rules
use Rattle.balise_rules.specs.Addresses.{Command, edit_of}
use Rattle.balise_rules.specs.Edits.{Edit, Item}
use Rattle.balise_rules.specs.declared.tagged_edit.TaggedEdit.TheVariants.{AddGroup, DropGroup}
use Rattle.balise_rules.specs.Notes.{noted, nothing, without_content}
use Rattle.balise_rules.specs.Doing.{done, refusal}
use Rattle.balise_rules.specs.Back.{back}
use Rattle.balise_rules.specs.Paths.{Entry}
use Rattle.balise_rules.specs.Behind.{anchor_of, serials_behind}
use Rattle.balise_rules.specs.Session.{back_needs_no_memory, needs_no_memory, top, State, Removed, Ask, Done, held, answer_edit, answer_accepted, Undo, Redo, Strike, Undone, Redone, Struck, entries, last, later, others, first_dependent, put_back, answer_in_time}
use Rattle.std.proofs.lemmas.Bool.{false≢true}
use Rattle.balise_rules.proofs.Cases.{unsome}
use Rattle.balise_rules.proofs.Tests.{split_on}
use Rattle.balise_edit_laws.specs.Along.{back_along}
use Rattle.balise_edits.specs.Standing.{IsLast, IsNext, changed_to}
use Rattle.balise_plan.specs.Held.{Plan}
use Rattle.balise_strike_laws.specs.InSession.{left_of}
use Rattle.balise_strike_laws.specs.Redoing.{Answer}
use Rattle.balise_strike_laws.proofs.SessionsKept.{sessions_kept}
use Rattle.balise_strike_laws.proofs.SessionStrikes.{hung-empty}
use Rattle.balise_history.specs.Tests.{MayRunOut, StrikeMayRunOut}
use Rattle.balise_history.specs.Lists.{History, Gone, items_of, removed_of, place_of, top_serial, Ascends, TakesOut, PutsBack}
use Rattle.balise_history.specs.Held.{Edited, seen, Holds, IsHeld, Accepts, Refuses}
use Rattle.balise_history.proofs.Adding.{added}
use Rattle.balise_history.proofs.Entries.{items-append}
use Rattle.balise_history.proofs.Taking.{held_state, own-base, own-held, rest_of, there, taken-out}
use Rattle.balise_history.proofs.Returning.{with_back, brought-back}

-- what is seen of a plan and a history
abbrev pub view : Plan → History → ℕ → Edited
view p h next = seen p.groups h.standing h.stack next p.changes

abbrev pub HeldIn : Plan → History → ℕ → Type 0
HeldIn p h next = IsHeld p.groups h.standing h.stack next

-- the top of a stack, or anything where there is none
abbrev pub top_of : List Gone → Gone
top_of [] = (((0, DropGroup (Base 0)), nothing), [])
top_of (r ∷ rs) = r

-- a stack with a top
pub record Topped (sk : List Gone) (n : ℕ) : Type 0 where
  pub rest : List Gone
  pub whole : sk ≡ top_of sk ∷ rest
  pub serial : (top_of sk).0.0.0 ≡ n

pub topped : (sk : List Gone) (n : ℕ) → top_serial sk ≡ Some n → Topped sk n
topped [] n h = absurd cc
topped (r ∷ rs) n h = record { rest = rs; whole = refl; serial = unsome h }

-- what is held is held, the plan first read stays, and the lists are these
pub record Leaves (p : Plan) (h : History) (next : ℕ) (q : Plan) (k : History) (left : List Item) (stack : List Removed) : Type 0 where
  pub held : IsHeld q.groups k.standing k.stack next
  pub base : back_along k.standing q.groups ≡ back_along h.standing p.groups
  pub standing : items_of k.standing ≡ left
  pub stack_is : map removed_of k.stack ≡ stack
  pub changes : q.changes ≡ p.changes + 1

pub leaves : (p : Plan) (h : History) (next : ℕ) (q : Plan) (k : History) (g : rules.Plan) (st : List Entry) (sk : List Gone) (left : List Item) →
    Holds (back_along h.standing p.groups) g st sk next → q ≡ changed_to g p → k.standing ≡ st → k.stack ≡ sk → items_of st ≡ left → Leaves p h next q k left (map removed_of sk)
leaves p h next q k g st sk left o a b c d =
    let base = back_along h.standing p.groups in
    record {
      held = rw (a, b, c) (own-held base g st sk next o);
      base = rw (a, b) (own-base base g st sk next o);
      standing = rw b d;
      stack_is = rw c;
      changes = rw a;
    }

-- ---- an entry taken out

pub took-out : {A : Type 0} (u : A) (p : Plan) (h : History) (next n : ℕ) (e : Entry) (B : List ℕ) (q : Plan) (k : History) → HeldIn p h next → slice_get h.standing n ≡ Some e →
    first_dependent e (drop (suc n) h.standing) ≡ None → B ≡ serials_behind e (drop (suc n) h.standing) → TakesOut n B p h {A = A} (Ok u) q k →
    Leaves p h next q k (left_of e B (items_of h.standing)) ((record { item = e.0; behind = B }) ∷ map removed_of h.stack)
took-out u p h next n e B q k o g d b t =
    let w = rw (← b) at (taken-out (back_along h.standing p.groups) p.groups h.standing h.stack next n e o g d) in
    let same : t.0 ≡ e = unsome (sym t.1 ∙ g) in
    leaves p h next q k (back e.0 e.1 p.groups) (rest_of h.standing n e B) (((e.0, without_content e.1), B) ∷ h.stack) (left_of e B (items_of h.standing))
    w.holds (rw same at t.2) (rw (same, add-one) at t.3) (rw same at t.4) w.left

pub is-last : (p : Plan) (h : History) (next n : ℕ) (e f : Entry) → HeldIn p h next → slice_get h.standing n ≡ Some e → first_dependent e (drop (suc n) h.standing) ≡ None → slice_get h.standing n ≡ Some f → IsLast f p.groups
is-last p h next n e f o g d k =
    let same : e ≡ f = unsome (sym g ∙ k) in
    subst (λ (x : Entry). IsLast x p.groups) same (taken-out (back_along h.standing p.groups) p.groups h.standing h.stack next n e o g d).last

-- ---- strikes

found-in : (p : Plan) (h : History) (next n serial : ℕ) (e : Entry) → HeldIn p h next → slice_get h.standing n ≡ Some e → e.0.0 ≡ serial →
    find (λ (f : Entry). eqb serial f.0.0) (entries (back_along h.standing p.groups) (items_of h.standing)) ≡ Some e
found-in p h next n serial e o g s = rw (← s) (there (back_along h.standing p.groups) p.groups h.standing h.stack next n e o g).found

pub strike-accepts : {A : Type 0} (u : A) (p : Plan) (h : History) (next n serial : ℕ) (e : Entry) (B : List ℕ) (q : Plan) (k : History) → HeldIn p h next → slice_get h.standing n ≡ Some e → e.0.0 ≡ serial →
    first_dependent e (drop (suc n) h.standing) ≡ None → B ≡ serials_behind e (drop (suc n) h.standing) → TakesOut n B p h {A = A} (Ok u) q k → Accepts (Strike serial) (view p h next) (Struck serial) (view q k next)
strike-accepts u p h next n serial e B q k o g s d b t =
    let l = took-out u p h next n e B q k o g d b t in
    let w = there (back_along h.standing p.groups) p.groups h.standing h.stack next n e o g in
    (λ m. rw (found-in p h next n serial e o g s, w.later_are, d, ← b, l.base, l.standing, l.stack_is, s) refl, l.changes)

pub strike-missing : (p : Plan) (h : History) (next serial : ℕ) → HeldIn p h next → find (λ (f : Entry). eqb serial f.0.0) h.standing ≡ None → Refuses (Strike serial) (view p h next) NoSuchEdit (view p h next)
strike-missing p h next serial o n = (inr (λ m. rw (← o.noted_there, n) refl), refl)

pub strike-dependent : (p : Plan) (h : History) (next n serial : ℕ) (e : Entry) (r : Refusal) (d : ℕ) → HeldIn p h next → slice_get h.standing n ≡ Some e → e.0.0 ≡ serial →
    first_dependent e (drop (suc n) h.standing) ≡ Some d → r ≡ DependsOn d → Refuses (Strike serial) (view p h next) r (view p h next)
strike-dependent p h next n serial e r d o g s f q =
    let w = there (back_along h.standing p.groups) p.groups h.standing h.stack next n e o g in
    (inr (λ m. rw (found-in p h next n serial e o g s, w.later_are, f, q) refl), refl)

-- ---- undos

last-at : (es : List Entry) (n : ℕ) (e : Entry) → suc n ≡ length es → slice_get es n ≡ Some e → last (items_of es) ≡ Some e.0
last-at (f ∷ []) zero e l g = ap (λ (x : Entry). Some x.0) (unsome g)
last-at (f ∷ x ∷ xs) (suc n) e l g = last-at (x ∷ xs) n e (omega arith) g
last-at es n e l g = absurd (omega arith)

pub none-behind : (es : List Entry) (n : ℕ) → suc n ≡ length es → drop (suc n) es ≡ []
none-behind es n l = grind (arith, common_steps)

pub undo-accepts : {A : Type 0} (u : A) (p : Plan) (h : History) (next n : ℕ) (e : Entry) (B : List ℕ) (q : Plan) (k : History) → HeldIn p h next → slice_get h.standing n ≡ Some e → suc n ≡ length h.standing → B ≡ [] →
    TakesOut n B p h {A = A} (Ok u) q k → Accepts Undo (view p h next) (Undone e.0.0) (view q k next)
undo-accepts u p h next n e B q k o g s z t =
    let is = items_of h.standing in
    let nb = none-behind h.standing n s in
    let l = took-out u p h next n e B q k o g (ap (first_dependent e) nb) (z ∙ ap (serials_behind e) (sym nb)) t in
    let left : items_of k.standing ≡ others e.0.0 is = l.standing ∙ ap (λ (x : List ℕ). left_of e x is) z ∙ hung-empty (anchor_of e.0.1) (others e.0.0 is) in
    (λ m. rw (last-at h.standing n e s g, l.base, left, l.stack_is, z) refl, l.changes)

-- ---- redos

pub is-next : (p : Plan) (h : History) (next n : ℕ) (r : Gone) (rs : List Gone) → HeldIn p h next → h.stack ≡ r ∷ rs → n ≡ place_of r.0.0.0 h.standing → IsNext r.0 p.groups × Ascends r.1
is-next p h next n r rs o s g =
    let w = brought-back (back_along h.standing p.groups) p.groups h.standing r rs next n (rw s at o) g in
    (w.next, w.ascends)

pub put-back : {A : Type 0} (u : A) (p : Plan) (h : History) (next n : ℕ) (r : Gone) (rs : List Gone) (q : Plan) (k : History) → HeldIn p h next → h.stack ≡ r ∷ rs → n ≡ place_of r.0.0.0 h.standing → PutsBack n r p h {A = A} (Ok u) q k →
    Leaves p h next q k (put_back (removed_of r) (items_of h.standing)) (map removed_of rs)
put-back u p h next n r rs q k o s g t =
    let w = brought-back (back_along h.standing p.groups) p.groups h.standing r rs next n (rw s at o) g in
    let same : r ∷ rs ≡ r ∷ k.stack = sym s ∙ t.2 in
    let rest : k.stack ≡ rs = cc in
    leaves p h next q k (done r.0.0 p.groups) (with_back h.standing n r p.groups) rs (put_back (removed_of r) (items_of h.standing)) w.holds t.0 t.1 rest w.standing

pub redo-accepts : {A : Type 0} (u : A) (p : Plan) (h : History) (next n : ℕ) (r : Gone) (rs : List Gone) (q : Plan) (k : History) → HeldIn p h next → h.stack ≡ r ∷ rs → n ≡ place_of r.0.0.0 h.standing → PutsBack n r p h {A = A} (Ok u) q k →
    Accepts Redo (view p h next) (Redone r.0.0.0) (view q k next)
redo-accepts u p h next n r rs q k o s g t =
    let l = put-back u p h next n r rs q k o s g t in
    (λ m. rw (s, l.base, l.standing, l.stack_is) refl, l.changes)

-- ---- edits

-- an edit that is accepted goes after those that stand
pub added-one : (p : Plan) (h : History) (next : ℕ) (c : Command) (e : Edit) (f : Entry) (q : Plan) (k : History) → HeldIn p h next → edit_of c p.groups ≡ Ok e → refusal e p.groups ≡ None → f ≡ ((next, e), noted e p.groups) →
    q ≡ changed_to (done (next, e) p.groups) p → k.standing ≡ h.standing ++ f ∷ [] → k.stack ≡ [] → Leaves p h (suc next) q k (items_of h.standing ++ (next, e) ∷ []) []
added-one p h next c e f q k o g r x a b d =
    let base = back_along h.standing p.groups in
    let it : Item = (next, e) in
    let old : State = held_state base h.standing h.stack next in
    let new : State = record { base = base; standing = items_of h.standing ++ it ∷ []; stack = []; serial = suc next; count = 1 } in
    let g1 : edit_of c (held old) ≡ Ok e = ap (edit_of c) (sym o.made_of) ∙ g in
    let r1 : refusal e (held old) ≡ None = ap (refusal e) (sym o.made_of) ∙ r in
    let an : ◌≡◌ {A = Answer} (Done next, new) (answer_in_time (Ask c) old) = sym (ap (answer_edit old) g1 ∙ ap (answer_accepted old e) r1) in
    let i = (sessions_kept (Ask c) (Done next) old new o.session (inl an)).0 in
    let w = added base p.groups h.standing h.stack next (suc next) it o (record { untagged = i.untagged; first = i.first; standing = i.standing; redoable = i.redoable; within = i.within }) in
    leaves p h (suc next) q k (done it p.groups) (h.standing ++ (it, noted e p.groups) ∷ []) [] (items_of h.standing ++ it ∷ []) w a (b ∙ ap (λ (y : Entry). h.standing ++ y ∷ []) x) d
    (items-append h.standing ((it, noted e p.groups) ∷ []))

pub edit-accepts : (p : Plan) (h : History) (next : ℕ) (c : Command) (e : Edit) (f : Entry) (q : Plan) (k : History) → HeldIn p h next → edit_of c p.groups ≡ Ok e → refusal e p.groups ≡ None → f ≡ ((next, e), noted e p.groups) →
    q ≡ changed_to (done (next, e) p.groups) p → k.standing ≡ h.standing ++ f ∷ [] → k.stack ≡ [] → Accepts (Ask c) (view p h next) (Done next) (view q k (suc next))
edit-accepts p h next c e f q k o g r x a b d =
    let l = added-one p h next c e f q k o g r x a b d in
    (λ m. rw (← o.made_of, g, ← o.made_of, r, l.base, l.standing, l.stack_is) refl, l.changes)

-- ---- out of memory

-- an edit that isn't one of those that need none may want some
pub may-want : (b : Bool) → (b ≡ true → false ≡ true) → IsTrue (not b)
may-want true h = absurd (false≢true (h refl))
may-want false h = refl

-- one that needs none to be done again needs none to be taken back
pub back-without : (e : Item) → needs_no_memory (Some e) ≡ true → back_needs_no_memory (Some e) ≡ true
back-without (s, AddGroup after bs) h = refl
back-without e h = h

same-view : (p q : Plan) (h k : History) (next : ℕ) → q ≡ p → k ≡ h → view q k next ≡ view p h next
same-view p q h k next a b = ap (λ (x : Plan). view x k next) a ∙ ap (λ (x : History). view p x next) b

pub undo-wants : (p : Plan) (h : History) (next n : ℕ) (e : Entry) (q : Plan) (k : History) (r : Refusal) → slice_get h.standing n ≡ Some e → suc n ≡ length h.standing → (back_needs_no_memory (Some e.0) ≡ true → false ≡ true) →
    (r ≡ OutOfMemory) × (q ≡ p) × (k ≡ h) → Refuses Undo (view p h next) r (view q k next)
undo-wants p h next n e q k r g s w t =
    (inl (t.0, subst (λ (x : Option Item). IsTrue (not (back_needs_no_memory x))) (sym (last-at h.standing n e s g)) (may-want (back_needs_no_memory (Some e.0)) w)), same-view p q h k next t.1 t.2)

pub redo-wants : (p : Plan) (h : History) (next : ℕ) (r : Gone) (rs : List Gone) (q : Plan) (k : History) (f : Refusal) → h.stack ≡ r ∷ rs → (needs_no_memory (Some r.0.0) ≡ true → false ≡ true) →
    (f ≡ OutOfMemory) × (q ≡ p) × (k ≡ h) → Refuses Redo (view p h next) f (view q k next)
redo-wants p h next r rs q k f s w t =
    (inl (t.0, subst (λ (x : List Gone). IsTrue (not (needs_no_memory (top (map removed_of x))))) (sym s) (may-want (needs_no_memory (Some r.0.0)) w)), same-view p q h k next t.1 t.2)

found-item : (s : ℕ) (es : List Entry) (e : Entry) → find (λ (f : Entry). eqb s f.0.0) es ≡ Some e → find (λ (f : Item). eqb s f.0) (items_of es) ≡ Some e.0
found-item s [] e h = absurd cc
found-item s (x ∷ xs) e h = split_on (eqb s x.0.0)
    (λ t. let q : Some x ≡ Some e = simp t at h in simp t (ap (λ (y : Entry). Some y.0) (unsome q)))
    (λ t. let q : find (λ (f : Entry). eqb s f.0.0) xs ≡ Some e = simp t at h in simp t (found-item s xs e q))

pub strike-wants : (p : Plan) (h : History) (next n serial : ℕ) (e : Entry) (q : Plan) (k : History) (r : Refusal) → HeldIn p h next → slice_get h.standing n ≡ Some e → e.0.0 ≡ serial → (needs_no_memory (Some e.0) ≡ true → false ≡ true) →
    (r ≡ OutOfMemory) × (q ≡ p) × (k ≡ h) → Refuses (Strike serial) (view p h next) r (view q k next)
strike-wants p h next n serial e q k r o g s w t =
    let f = found-item serial h.standing e (ap (find (λ (x : Entry). eqb serial x.0.0)) o.noted_there ∙ found-in p h next n serial e o g s) in
    (inl (t.0, subst (λ (x : Option Item). IsTrue (not (needs_no_memory x))) (sym f) (may-want (needs_no_memory (Some e.0)) w)), same-view p q h k next t.1 t.2)

-- memory ran out before a later entry that depends on it was met
pub strike-may-run-out : (p : Plan) (h : History) (next n serial : ℕ) (e : Entry) → HeldIn p h next → slice_get h.standing n ≡ Some e → e.0.0 ≡ serial → (needs_no_memory (Some e.0) ≡ true → false ≡ true) → MayRunOut e (drop (suc n) h.standing) →
    StrikeMayRunOut serial (back_along h.standing p.groups) (items_of h.standing)
strike-may-run-out p h next n serial e o g s takes m =
    let base = back_along h.standing p.groups in
    let es = entries base (items_of h.standing) in
    let w = there base p.groups h.standing h.stack next n e o g in
    let q : later serial es ≡ drop (suc n) h.standing = ap (λ (k : ℕ). later k es) (sym s) ∙ w.later_are in
    (e, (found-in p h next n serial e o g s, may-want (needs_no_memory (Some e.0)) takes, subst (MayRunOut e) (sym q) m))

-- the only refusal that is out of memory
pub out-of-memory : {A : Type 0} (x : Refusal) → ◌≡◌ {A = Result A Refusal} (Err x) (Err OutOfMemory) → x ≡ OutOfMemory
out-of-memory x h = cc
