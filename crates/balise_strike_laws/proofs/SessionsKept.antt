-- Every command, and every line of a journal, leaves a state of a session.
-- From the laws of strikes in a session, from what accepted edits keep, and from serials that rise.
use Rattle.std.proofs.Common.{◌≡◌, ◌≢◌, ◌≤◌, inl, inr, ℕ, All, true, ◌&&◌, eqb, nat_le, List, [], ◌∷◌, ◌++◌, Option, Some, None, Result, Ok, Err, refl, sym, ap, subst, arith}
use Rattle.std.specs.Prelude.{find, is_none}
use Rattle.std.proofs.lemmas.Bool.{and_parts, leb-true}
use Rattle.balise_rules.specs.declared.refusal.Refusal.{Refusal}
use Rattle.balise_rules.specs.Plan.{Plan, IsSound}
use Rattle.balise_rules.specs.Edits.{Edit, Item}
use Rattle.balise_rules.specs.Doing.{refusal}
use Rattle.balise_rules.specs.Accepting.{Unused}
use Rattle.balise_rules.specs.Paths.{Entry}
use Rattle.balise_rules.specs.Behind.{serials_behind}
use Rattle.balise_rules.specs.Addresses.{Command, edit_of}
use Rattle.balise_rules.specs.Session.{State, Removed, lone, Call, Ask, Undo, Redo, Strike, Struck, held, entries, last, later, others, first_dependent, put_back, taken_out, answer, answer_in_time, answer_accepted, answer_edit, answer_undo, answer_redo, answer_strike, answer_dependent, top}
use Rattle.balise_rules.specs.Journal.{Line, all_back}
use Rattle.balise_rules.specs.Opening.{item_of, most_serial, last_serial, with_item, with_entry, uncounted}
use Rattle.balise_rules.proofs.Cases.{unsome}
use Rattle.balise_edit_laws.specs.TakenBack.{IsReady}
use Rattle.balise_edit_laws.proofs.DoneExactly.{done_along}
use Rattle.balise_edit_laws.proofs.Histories.{kept_along}
use Rattle.balise_edit_laws.proofs.LinesReady.{when_some, line_between, lines_ready}
use Rattle.balise_edit_laws.proofs.ReadyCommands.{command_ready}
use Rattle.balise_strike_laws.specs.Striking.{Standing}
use Rattle.balise_strike_laws.specs.InSession.{Rising, Between, left_of}
use Rattle.balise_strike_laws.specs.Redoing.{WasStruck, Redoable, Answer}
use Rattle.balise_strike_laws.specs.Sessions.{IsSession, SessionsBegin, SessionsKept, OpeningsBegin, OpeningsKept, PlansMade}
use Rattle.balise_strike_laws.proofs.Replies.{base_kept, base_in_time, if_in_time}
use Rattle.balise_strike_laws.proofs.Rising.{rising-between, between-back, between-next, others-above, between-more, between-before}
use Rattle.balise_strike_laws.proofs.Strikes.{standing-next}
use Rattle.balise_strike_laws.proofs.TakenOut.{IsOut, removed, out_struck, out_undone}

-- ---- what a state of a session gives

pub standing_within : (s : State) → IsSession s → Between 0 s.serial s.standing
standing_within s i = between-back 0 s.serial s.stack s.standing i.within

pub rises : (s : State) → IsSession s → Rising s.standing
rises s i = rising-between 0 s.serial s.standing (standing_within s i)

pub plans_made : PlansMade
plans_made s i =
    let k = kept_along s.standing s.base i.standing.sound i.standing.unused i.standing.spelt i.standing.accepted in
    record {
      made = done_along s.standing s.base k.0;
      sound = k.1;
      unused = λ n h. k.2 n (others-above 0 s.serial n h s.standing (standing_within s i)) (i.untagged n);
    }

-- the edits stand that would if all of the stack were put back
pub all_standing : (base : Plan) → (rs : List Removed) → (items : List Item) → Standing base items → Redoable base items rs → Standing base (all_back rs items)
all_standing base [] items st d = st
all_standing base (r ∷ rs) items st d = all_standing base rs (put_back r items) d.0.standing d.1

-- ---- one edit more

-- with a ready edit at the end, whose serial is the next one or above the last one
with_next : (s t : State) → (x : Item) → t.base ≡ s.base → t.standing ≡ s.standing ++ x ∷ [] → t.stack ≡ [] → 1 ≤ t.serial → Between 0 t.serial (s.standing ++ x ∷ []) →
    IsSession s → All (λ e. x.0 ≢ e.0) s.standing → IsReady x (held s) → IsSession t
with_next s t x b st k one w i n r =
    let all : Standing t.base t.standing = subst (λ p. Standing p t.standing) (sym b) (subst (Standing s.base) (sym st) (standing-next s.base s.standing x i.standing n (i.untagged x.0) r)) in
    record {
      untagged = λ m. subst (Unused m) (sym b) (i.untagged m);
      first = one;
      standing = all;
      redoable = subst (Redoable t.base t.standing) (sym k) tt;
      within = subst (λ l. Between 0 t.serial (all_back l t.standing)) (sym k) (subst (Between 0 t.serial) (sym st) w);
    }

asked : (s : State) → (c : Command) → (e : Edit) → IsSession s → edit_of c (held s) ≡ Ok e → (o : Option Refusal) → refusal e (held s) ≡ o → IsSession (answer_accepted s e o).1
asked s c e i q (Some r) h = i
asked s c e i q None h =
    let m = plans_made s i in
    let x : Item = (s.serial, e) in
    let one = i.first in
    with_next s (answer_accepted s e None).1 x refl refl refl (omega arith) (between-next 0 s.serial x refl (omega arith) s.standing (standing_within s i)) i
    (others-above 0 s.serial s.serial (omega arith) s.standing (standing_within s i))
    (command_ready c s.serial e (held s) m.sound (m.unused s.serial (omega arith)) q h)

edited : (s : State) → (c : Command) → IsSession s → (o : Result Edit Refusal) → edit_of c (held s) ≡ o → IsSession (answer_edit s o).1
edited s c i (Err r) q = i
edited s c i (Ok e) q = asked s c e i q (refusal e (held s)) refl

-- ---- one edit less, or back

out : (s : State) → (r : Removed) → (left : List Item) → IsSession s → IsOut s.base s.standing r left → IsSession (taken_out s left r)
out s r left i o = record {
  untagged = i.untagged;
  first = i.first;
  standing = o.standing;
  redoable = (subst (λ l. WasStruck s.base l r left) (sym o.own_place) o.was, subst (λ l. Redoable s.base l s.stack) (sym o.own_place) i.redoable);
  within = subst (λ l. Between 0 s.serial (all_back s.stack l)) (sym o.own_place) i.within;
}

undone : (s : State) → IsSession s → (o : Option Item) → last s.standing ≡ o → IsSession (answer_undo s o).1
undone s i None q = i
undone s i (Some e) q = out s (lone e) (others e.0 s.standing) i (out_undone s.base s.standing e i.standing (rises s i) q)

redone : (s : State) → IsSession s → (rs : List Removed) → s.stack ≡ rs → IsSession (answer_redo s rs).1
redone s i [] q = i
redone s i (r ∷ rs) q =
    let d : Redoable s.base s.standing (r ∷ rs) = subst (Redoable s.base s.standing) q i.redoable in
    record {
      untagged = i.untagged;
      first = i.first;
      standing = d.0.standing;
      redoable = d.1;
      within = subst (λ l. Between 0 s.serial (all_back l s.standing)) q i.within;
    }

dependent : (s : State) → (m : ℕ) → (e : Entry) → IsSession s → find (λ f. eqb m f.0.0) (entries s.base s.standing) ≡ Some e → (o : Option ℕ) →
    first_dependent e (later e.0.0 (entries s.base s.standing)) ≡ o → IsSession (answer_dependent s e (later e.0.0 (entries s.base s.standing)) o).1
dependent s m e i f (Some n) d = i
dependent s m e i f None d =
    out s (removed s.base s.standing e) (left_of e (serials_behind e (later e.0.0 (entries s.base s.standing))) s.standing) i (out_struck s.base s.standing m e i.standing (rises s i) f d)

struck : (s : State) → (m : ℕ) → IsSession s → (o : Option Entry) → find (λ f. eqb m f.0.0) (entries s.base s.standing) ≡ o → IsSession (answer_strike s o).1
struck s m i None f = i
struck s m i (Some e) f = dependent s m e i f (first_dependent e (later e.0.0 (entries s.base s.standing))) refl

in_time : (c : Call) → (s : State) → IsSession s → IsSession (answer_in_time c s).1
in_time (Ask c) s i = edited s c i (edit_of c (held s)) refl
in_time Undo s i = undone s i (last s.standing) refl
in_time Redo s i = redone s i s.stack refl
in_time (Strike m) s i = struck s m i (find (λ f. eqb m f.0.0) (entries s.base s.standing)) refl

answered : (c : Call) → (s : State) → IsSession s → IsSession (answer c s).1
answered c s i = if_in_time (λ (a : Answer). IsSession a.1) c s i (in_time c s i)

pub sessions_kept : SessionsKept
sessions_kept c r s t i (inl q) = subst (λ (a : Answer). IsSession a.1 × (a.1.base ≡ s.base)) (sym q) (answered c s i, base_kept c s)
sessions_kept c r s t i (inr w) = (subst IsSession (sym w.2) i, ap (λ (u : State). u.base) w.2)

-- a session in which no edit was made
begun : (plan : Plan) → (next : ℕ) → IsSound plan → ((n : ℕ) → Unused n plan) → 1 ≤ next → IsSession (record { base = plan; standing = []; stack = []; serial = next; count = 0 })
begun plan next sound untagged one = record {
  untagged = untagged;
  first = one;
  standing = record { sound = sound; unused = tt; spelt = tt; accepted = tt };
  redoable = tt;
  within = tt;
}

pub sessions_begin : SessionsBegin
sessions_begin plan sound untagged = begun plan 1 sound untagged (omega arith)

-- ---- journals

pub openings_begin : OpeningsBegin
openings_begin plan next s sound untagged h =
    let w = when_some (nat_le 1 next && nat_le next most_serial) _ s h in
    let o = and_parts (nat_le 1 next) (nat_le next most_serial) w.0 in
    subst IsSession (unsome w.1) (begun plan next sound untagged (leb-true 1 next o.0))

no_top : (rs : List Removed) → is_none (top rs) ≡ true → rs ≡ []
no_top [] h = refl
no_top (r ∷ rs) h = absurd cc

entered : (l : Line) → (s : State) → IsSession s → s.stack ≡ [] → (e : Item) → item_of (last_serial s.standing) s.serial l (held s) ≡ Some e → IsSession (record s { standing = s.standing ++ e ∷ [] })
entered l s i k e q =
    let b = line_between (last_serial s.standing) s.serial l e (held s) q in
    let w = between-more s.serial e s.standing b.0 b.1 (standing_within s i) in
    let n = others-above 0 e.0 e.0 (omega arith) s.standing (between-before 0 s.serial e s.standing w) in
    let m = kept_along s.standing s.base i.standing.sound i.standing.unused i.standing.spelt i.standing.accepted in
    let f = lines_ready (last_serial s.standing) s.serial l e (held s) m.1 (m.2 e.0 n (i.untagged e.0)) q in
    with_next s (record s { standing = s.standing ++ e ∷ [] }) e refl refl k i.first w i n f.ready

item_entered : (l : Line) → (s t : State) → IsSession s → s.stack ≡ [] → (o : Option Item) → item_of (last_serial s.standing) s.serial l (held s) ≡ o → with_item s o ≡ Some t → IsSession t × (t.base ≡ s.base)
item_entered l s t i k None q h = absurd cc
item_entered l s t i k (Some e) q h = subst (λ (u : State). IsSession u × (u.base ≡ s.base)) (unsome h) (entered l s i k e q, refl)

entries_kept : (l : Line) → (s t : State) → IsSession s → with_entry s l ≡ Some t → IsSession t × (t.base ≡ s.base)
entries_kept l s t i h =
    let w = when_some (is_none (top s.stack)) (with_item s (item_of (last_serial s.standing) s.serial l (held s))) t h in
    item_entered l s t i (no_top s.stack w.0) (item_of (last_serial s.standing) s.serial l (held s)) refl w.1

recounted : (s : State) → (n : ℕ) → IsSession s → IsSession (record s { count = n })
recounted s n i = record { untagged = i.untagged; first = i.first; standing = i.standing; redoable = i.redoable; within = i.within }

uncounted_kept : (s t : State) → (n : ℕ) → (a : Answer) → IsSession a.1 → a.1.base ≡ s.base → uncounted n a ≡ Some t → IsSession t × (t.base ≡ s.base)
uncounted_kept s t n (Struck m, u) i b h = subst (λ (x : State). IsSession x × (x.base ≡ s.base)) (unsome h) (recounted u n i, b)
uncounted_kept s t n (r, u) i b h = absurd cc

pub openings_kept : OpeningsKept
openings_kept = (entries_kept, λ n s t i h. uncounted_kept s t s.count (answer_in_time (Strike n) s) (in_time (Strike n) s i) (base_in_time (Strike n) s) h)
