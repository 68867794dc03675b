-- Edits that are all accepted and all undone leave the plan first read.
-- Each edit that is accepted adds one that stands, and each undo takes one out, since serials rise.
use Rattle.std.proofs.Common.{◌≡◌, ◌⊎◌, ◌<◌, ◌+◌, ◌∙◌, inl, inr, ⊎_elim, ℕ, zero, suc, Bool, true, false, cond, eqb, nat_le, List, [], ◌∷◌, Option, Some, None, Result, Ok, Err, length, refl, sym, ap, subst, arith}
use Rattle.std.proofs.lemmas.Bool.Decides.{nat_tests}
use Rattle.std.proofs.lemmas.List.{length-append, nil_from_length}
use Rattle.balise_rules.specs.declared.refusal.Refusal.{Refusal}
use Rattle.balise_rules.specs.declared.refusal.Refusal.TheVariants.{OutOfMemory, Worn, NothingToUndo}
use Rattle.balise_rules.specs.Addresses.{Command, edit_of}
use Rattle.balise_rules.specs.Doing.{refusal}
use Rattle.balise_rules.specs.Edits.{Edit, Item}
use Rattle.balise_rules.specs.Plan.{Plan}
use Rattle.balise_rules.specs.Session.{State, Call, Reply, Ask, Undo, Done, Undone, Refused, Answers, opened, held, made, last, others, most_commands, answer, answer_in_time, answer_accepted, answer_edit, answer_undo}
use Rattle.balise_rules.proofs.Cases.{unsome}
use Rattle.balise_strike_laws.specs.Headline.{Promised}
use Rattle.balise_strike_laws.specs.InSession.{Between}
use Rattle.balise_strike_laws.specs.Redoing.{Answer}
use Rattle.balise_strike_laws.specs.Sessions.{IsSession, Leads}
use Rattle.balise_strike_laws.proofs.Promises.{sessions_promised}
use Rattle.balise_strike_laws.proofs.SessionsKept.{sessions_begin, sessions_kept, standing_within}
use Rattle.balise_history.specs.Unmade.{AllDone, AllUndone, EachOnTheWay, EditsUndone, PromisedOnTheWay}

-- ---- each state on the way

on_the_way : (plan : Plan) (cs : List Call) (s : State) (rs : List Reply) (t : State) (w : Leads cs s rs t) → IsSession s → s.base ≡ plan → EachOnTheWay (Promised plan) cs s rs t w
on_the_way plan [] s [] t w i e = subst (Promised plan) (sym w) (subst (λ p. Promised p s) e (sessions_promised s i))
on_the_way plan [] s (r ∷ rs) t w i e = absurd w
on_the_way plan (c ∷ cs) s [] t w i e = absurd w
on_the_way plan (c ∷ cs) s (r ∷ rs) t w i e =
    let k = sessions_kept c r s w.0 i w.1 in
    (subst (λ p. Promised p s) e (sessions_promised s i), on_the_way plan cs w.0 rs t w.2 k.0 (k.1 ∙ e))

pub promised_on_the_way : PromisedOnTheWay
promised_on_the_way plan sound untagged cs rs t w = on_the_way plan cs (opened plan) rs t w (sessions_begin plan sound untagged) refl

-- ---- the last of those that stand

last-above : (l n : ℕ) (es : List Item) (e : Item) → Between l n es → last es ≡ Some e → l < e.0
last-above l n [] e b h = absurd cc
last-above l n (x ∷ []) e b h = subst (λ (y : Item). l < y.0) (unsome h) b.0
last-above l n (x ∷ y ∷ ys) e b h = let k = last-above x.0 n (y ∷ ys) e b.2 h in let j = b.0 in omega arith

-- one is left out, since no other has its serial
others-fewer : (l n : ℕ) (es : List Item) (e : Item) → Between l n es → last es ≡ Some e → suc (length (others e.0 es)) ≡ length es
others-fewer l n [] e b h = absurd cc
others-fewer l n (x ∷ []) e b h =
    let q : x.0 ≡ e.0 = ap (λ (y : Item). y.0) (unsome h) in
    let f : eqb x.0 e.0 ≡ true = grind (arith, nat_tests) in
    simp f
others-fewer l n (x ∷ y ∷ ys) e b h =
    let k = last-above x.0 n (y ∷ ys) e b.2 h in
    let f : eqb x.0 e.0 ≡ false = grind (arith, nat_tests) in
    simp f (ap suc (others-fewer x.0 n (y ∷ ys) e b.2 h))

-- a call is answered in time, unless it is one too many
answered : (c : Call) (s t : State) (r : Reply) → ◌≡◌ {A = Answer} (r, t) (answer c s) → (r ≡ Refused Worn) ⊎ ◌≡◌ {A = Answer} (r, t) (answer_in_time c s)
answered c s t r h = by (nat_le most_commands s.count) h
  where
    by : (b : Bool) → ◌≡◌ {A = Answer} (r, t) (cond b (Refused Worn, s) (answer_in_time c s)) → (r ≡ Refused Worn) ⊎ ◌≡◌ {A = Answer} (r, t) (answer_in_time c s)
    by true h = inl (ap (λ (x : Answer). x.0) h)
    by false h = inr h

-- ---- an edit that is accepted

accepted-more : (s t : State) (n : ℕ) (e : Edit) (o : Option Refusal) → ◌≡◌ {A = Answer} (Done n, t) (answer_accepted s e o) → length t.standing ≡ suc (length s.standing)
accepted-more s t n e (Some r) h = let q : Done n ≡ Refused r = ap (λ (x : Answer). x.0) h in absurd cc
accepted-more s t n e None h = ap (λ (x : Answer). length x.1.standing) h ∙ (let l = length-append s.standing ((s.serial, e) ∷ []) in omega arith)

edit-more : (s t : State) (n : ℕ) (r : Result Edit Refusal) → ◌≡◌ {A = Answer} (Done n, t) (answer_edit s r) → length t.standing ≡ suc (length s.standing)
edit-more s t n (Err r) h = let q : Done n ≡ Refused r = ap (λ (x : Answer). x.0) h in absurd cc
edit-more s t n (Ok e) h = accepted-more s t n e (refusal e (held s)) h

done-more : (c : Command) (s t : State) (n : ℕ) → Answers (Ask c) s (Done n) t → length t.standing ≡ suc (length s.standing)
done-more c s t n (inl q) = ⊎_elim (λ w. absurd cc) (edit-more s t n (edit_of c (held s))) (answered (Ask c) s t (Done n) q)
done-more c s t n (inr w) = let k : Done n ≡ Refused OutOfMemory = w.1 in absurd cc

-- ---- an undo

undo-fewer : (s t : State) (n : ℕ) (o : Option Item) → IsSession s → last s.standing ≡ o → ◌≡◌ {A = Answer} (Undone n, t) (answer_undo s o) → suc (length t.standing) ≡ length s.standing
undo-fewer s t n None i q h = let k : Undone n ≡ Refused NothingToUndo = ap (λ (x : Answer). x.0) h in absurd cc
undo-fewer s t n (Some e) i q h = ap (λ (x : Answer). suc (length x.1.standing)) h ∙ others-fewer 0 s.serial s.standing e (standing_within s i) q

undone-fewer : (s t : State) (n : ℕ) → IsSession s → Answers Undo s (Undone n) t → suc (length t.standing) ≡ length s.standing
undone-fewer s t n i (inl q) = ⊎_elim (λ w. absurd cc) (undo-fewer s t n (last s.standing) i refl) (answered Undo s t (Undone n) q)
undone-fewer s t n i (inr w) = let k : Undone n ≡ Refused OutOfMemory = w.1 in absurd cc

last-there : (es : List Item) → 0 < length es → last es ≡ None → ⊥
last-there [] l h = omega arith
last-there (x ∷ []) l h = cc
last-there (x ∷ y ∷ ys) l h = last-there (y ∷ ys) (omega arith) h

reason : (r q : Refusal) → Refused r ≡ Refused q → r ≡ q
reason r q h = cc

undo-refused : (t u : State) (r : Refusal) (o : Option Item) → (o ≡ None → ⊥) → ◌≡◌ {A = Answer} (Refused r, u) (answer_undo t o) → ⊥
undo-refused t u r None n h = n refl
undo-refused t u r (Some e) n h = let k : Refused r ≡ Undone e.0 = ap (λ (x : Answer). x.0) h in cc

refused-so : (t u : State) (r : Refusal) → 0 < length t.standing → Answers Undo t (Refused r) u → (r ≡ Worn) ⊎ (r ≡ OutOfMemory)
refused-so t u r l (inl q) = ⊎_elim (λ w. inl (reason r Worn w)) (λ h. absurd (undo-refused t u r (last t.standing) (last-there t.standing l) h)) (answered Undo t u (Refused r) q)
refused-so t u r l (inr w) = inr (reason r OutOfMemory w.1)

-- ---- all of them

all-done : (cs : List Command) (s t : State) → IsSession s → AllDone cs s t → IsSession t × (t.base ≡ s.base) × (length t.standing ≡ length s.standing + length cs)
all-done [] s t i w = subst (λ (x : State). IsSession x × (x.base ≡ s.base) × (length x.standing ≡ length s.standing + 0)) (sym w) (i, refl, omega arith)
all-done (c ∷ cs) s t i w =
    let a = w.1.1.0 in
    let k = sessions_kept (Ask c) (Done w.1.0) s w.0 i a in
    let m = done-more c s w.0 w.1.0 a in
    let r = all-done cs w.0 t k.0 w.1.1.1 in
    let n = r.2 in
    (r.0, r.1 ∙ k.1, omega arith)

all-undone : (k : ℕ) (s t : State) → IsSession s → AllUndone k s t → IsSession t × (t.base ≡ s.base) × (length t.standing + k ≡ length s.standing)
all-undone zero s t i w = subst (λ (x : State). IsSession x × (x.base ≡ s.base) × (length x.standing + 0 ≡ length s.standing)) (sym w) (i, refl, omega arith)
all-undone (suc k) s t i w =
    let a = w.1.1.0 in
    let j = sessions_kept Undo (Undone w.1.0) s w.0 i a in
    let m = undone-fewer s w.0 w.1.0 i a in
    let r = all-undone k w.0 t j.0 w.1.1.1 in
    let n = r.2 in
    (r.0, r.1 ∙ j.1, omega arith)

pub edits_undone : EditsUndone
edits_undone plan sound untagged cs s d =
    let a = all-done cs (opened plan) s (sessions_begin plan sound untagged) d in
    let m = a.2 in (
      λ t w.
          let b = all-undone (length cs) s t a.0 w in
          let n = b.2 in
          let z : t.standing ≡ [] = nil_from_length t.standing (omega arith) in
          record { standing = z; plan_is = ap (made t.base) z ∙ b.1 ∙ a.1 },
      λ k l t w r u h.
          let b = all-undone k s t a.0 w in
          let n = b.2 in
          refused-so t u r (omega arith) h,
    )
