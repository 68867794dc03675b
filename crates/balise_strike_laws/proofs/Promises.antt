-- What a session promises.
-- Proves that undo, strike and redo are taken back by one another, and that a strike is refused exactly where a later entry isn't independent.
-- From what every state of a session keeps.
use Rattle.std.proofs.Common.{◌≡◌, ◌↔◌, ◌≤◌, ◌<◌, ℕ, suc, All, true, false, cond, eqb, List, [], ◌∷◌, ◌++◌, Option, Some, None, refl, sym, ap, subst, ◌∙◌}
use Rattle.std.specs.Prelude.{find}
use Rattle.std.proofs.lemmas.Bool.{le-leb, lt-leb}
use Rattle.std.proofs.lemmas.List.Elements.{All-nil, All-cons, All-head, All-tail}
use Rattle.balise_rules.specs.declared.refusal.Refusal.TheVariants.{NothingToUndo, NothingToRedo, NoSuchEdit, DependsOn, Worn}
use Rattle.balise_rules.specs.Edits.{Item}
use Rattle.balise_rules.specs.Paths.{Entry}
use Rattle.balise_rules.specs.Behind.{independent, serials_behind}
use Rattle.balise_rules.specs.Session.{State, Removed, lone, Call, Undo, Redo, Strike, Reply, Undone, Redone, Struck, Refused, opened, most_commands, entries, last, later, others, first_dependent, put_back, taken_out, struck_out, answer, answer_in_time, answer_undo, answer_redo, answer_strike, answer_dependent, answer_among}
use Rattle.balise_rules.proofs.Tests.{split_on}
use Rattle.balise_strike_laws.specs.InSession.{left_of}
use Rattle.balise_strike_laws.specs.Redoing.{Redoable, Answer, counted}
use Rattle.balise_strike_laws.specs.Sessions.{IsSession, Leads}
use Rattle.balise_strike_laws.specs.Headline.{TakesBack, UndosRedone, StrikesRedone, RedosStruck, FirstDependent, AllExactly, ReadBack, Promised, SessionsPromised, Headline}
use Rattle.balise_strike_laws.proofs.Journals.{journal_kept}
use Rattle.balise_strike_laws.proofs.Replies.{refused_leaves, if_in_time}
use Rattle.balise_strike_laws.proofs.SessionsKept.{rises, plans_made, sessions_begin, sessions_kept, all_standing}
use Rattle.balise_strike_laws.proofs.TakenOut.{IsOut, removed, out_struck, out_undone, redo_after, strike_after}
use Rattle.balise_strike_laws.proofs.SessionStrikes.{serial_is}

-- ---- what is answered in time

in_time : (c : Call) → (t : State) → t.count < most_commands → answer c t ≡ answer_in_time c t
in_time c t h = ap (λ b. cond b (Refused Worn, t) (answer_in_time c t)) (lt-leb most_commands t.count h)

worn : (c : Call) → (t : State) → most_commands ≤ t.count → ◌≡◌ {A = Answer} (answer c t) (Refused Worn, t)
worn c t h = ap (λ b. cond b (Refused Worn, t) (answer_in_time c t)) (le-leb most_commands t.count h)

-- a reply that isn't that the session is worn is given in time
given : (c : Call) → (s t : State) → (r : Reply) → ((Refused Worn ≡ r) → ⊥) → ◌≡◌ {A = Answer} (answer c s) (r, t) → ◌≡◌ {A = Answer} (answer_in_time c s) (r, t)
given c s t r other h = if_in_time (λ (a : Answer). ◌≡◌ {A = Answer} a (r, t) → ◌≡◌ {A = Answer} (answer_in_time c s) (r, t)) c s (λ k. absurd (other (ap (λ (x : Answer). x.0) k))) (λ k. k) h

-- ---- undo, strike and redo

-- a command that answers this in time takes back what led here
takes : (c : Call) → (r : Reply) → (s t : State) → ◌≡◌ {A = Answer} (answer_in_time c t) (r, counted s (suc t.count)) → TakesBack c r s t
takes c r s t h = record { back = λ k. in_time c t k ∙ h; worn = worn c t }

out_redone : (s : State) → (r : Removed) → (left : List Item) → IsOut s.base s.standing r left → TakesBack Redo (Redone r.item.0) s (taken_out s left r)
out_redone s r left o = takes Redo (Redone r.item.0) s (taken_out s left r) (redo_after s r left o)

undone : (s t : State) → (n : ℕ) → IsSession s → (o : Option Item) → last s.standing ≡ o → ◌≡◌ {A = Answer} (answer_undo s o) (Undone n, t) → TakesBack Redo (Redone n) s t
undone s t n i None q h = let no : Refused NothingToUndo ≡ Undone n = ap (λ (a : Answer). a.0) h in absurd cc
undone s t n i (Some e) q h =
    let reply : Undone e.0 ≡ Undone n = ap (λ (a : Answer). a.0) h in
    let serial : e.0 ≡ n = cc in
    subst (λ x. TakesBack Redo (Redone n) s x) (ap (λ (a : Answer). a.1) h)
    (subst (λ m. TakesBack Redo (Redone m) s (taken_out s (others e.0 s.standing) (lone e))) serial (out_redone s (lone e) (others e.0 s.standing) (out_undone s.base s.standing e i.standing (rises s i) q)))

pub undos_redone : (s : State) → IsSession s → UndosRedone s
undos_redone s i n t h = undone s t n i (last s.standing) refl (given Undo s t (Undone n) (λ e. absurd cc) h)

dependent : (s t : State) → (m n : ℕ) → (e : Entry) → IsSession s → find (λ f. eqb m f.0.0) (entries s.base s.standing) ≡ Some e → (o : Option ℕ) →
    first_dependent e (later e.0.0 (entries s.base s.standing)) ≡ o → ◌≡◌ {A = Answer} (answer_dependent s e (later e.0.0 (entries s.base s.standing)) o) (Struck n, t) → TakesBack Redo (Redone n) s t
dependent s t m n e i f (Some k) d h = let no : Refused (DependsOn k) ≡ Struck n = ap (λ (a : Answer). a.0) h in absurd cc
dependent s t m n e i f None d h =
    let r = removed s.base s.standing e in
    let left = left_of e r.behind s.standing in
    let reply : Struck e.0.0 ≡ Struck n = ap (λ (a : Answer). a.0) h in
    let serial : e.0.0 ≡ n = cc in
    subst (λ x. TakesBack Redo (Redone n) s x) (ap (λ (a : Answer). a.1) h)
    (subst (λ k. TakesBack Redo (Redone k) s (taken_out s left r)) serial (out_redone s r left (out_struck s.base s.standing m e i.standing (rises s i) f d)))

struck : (s t : State) → (m n : ℕ) → IsSession s → (o : Option Entry) → find (λ f. eqb m f.0.0) (entries s.base s.standing) ≡ o → ◌≡◌ {A = Answer} (answer_strike s o) (Struck n, t) → TakesBack Redo (Redone n) s t
struck s t m n i None f h = let no : Refused NoSuchEdit ≡ Struck n = ap (λ (a : Answer). a.0) h in absurd cc
struck s t m n i (Some e) f h = dependent s t m n e i f (first_dependent e (later e.0.0 (entries s.base s.standing))) refl h

pub strikes_redone : (s : State) → IsSession s → StrikesRedone s
strikes_redone s i m n t h = struck s t m n i (find (λ f. eqb m f.0.0) (entries s.base s.standing)) refl (given (Strike m) s t (Struck n) (λ e. absurd cc) h)

redone : (s t : State) → (n : ℕ) → (rs : List Removed) → s.stack ≡ rs → Redoable s.base s.standing rs → ◌≡◌ {A = Answer} (answer_redo s rs) (Redone n, t) → TakesBack (Strike n) (Struck n) s t
redone s t n [] k d h = let no : Refused NothingToRedo ≡ Redone n = ap (λ (a : Answer). a.0) h in absurd cc
redone s t n (r ∷ rs) k d h =
    let u : State = record { base = s.base; standing = put_back r s.standing; stack = rs; serial = s.serial; count = suc s.count } in
    let reply : Redone r.item.0 ≡ Redone n = ap (λ (a : Answer). a.0) h in
    let serial : r.item.0 ≡ n = cc in
    let answered : ◌≡◌ {A = Answer} (answer_in_time (Strike r.item.0) u) (Struck r.item.0, counted s (suc (suc s.count))) =
    strike_after u r s.standing d.0 ∙ ap (λ l. (Struck r.item.0, record { base = s.base; standing = s.standing; stack = l; serial = s.serial; count = suc (suc s.count) })) (sym k) in
    subst (λ x. TakesBack (Strike n) (Struck n) s x) (ap (λ (a : Answer). a.1) h)
    (subst (λ m. TakesBack (Strike m) (Struck m) s u) serial (takes (Strike r.item.0) (Struck r.item.0) s u answered))

pub redos_struck : (s : State) → IsSession s → RedosStruck s
redos_struck s i n t h = redone s t n s.stack refl i.redoable (given Redo s t (Redone n) (λ e. absurd cc) h)

-- ---- strikes refused exactly where a later entry isn't independent

first_is : (e : Entry) → (fs : List Entry) → (n : ℕ) → first_dependent e fs ≡ Some n → FirstDependent e fs n
first_is e [] n h = absurd cc
first_is e (f ∷ fs) n h = split_on (independent e f)
    (λ i. let k : first_dependent e fs ≡ Some n = simp i at h in
    let r = first_is e fs n k in
    record { before = f ∷ r.before; dependent = r.dependent; after = r.after; whole = ap (λ l. f ∷ l) r.whole; all_before = All-cons (λ g. independent e g ≡ true) f r.before i r.all_before; depends = r.depends; serial = r.serial })
    (λ i. let k : Some f.0.0 ≡ Some n = simp i at h in
    record { before = []; dependent = f; after = fs; whole = refl; all_before = All-nil (λ g. independent e g ≡ true); depends = i; serial = cc })

first_at : (e : Entry) → (before : List Entry) → (d : Entry) → (after : List Entry) → All (λ f. independent e f ≡ true) before → independent e d ≡ false → first_dependent e (before ++ d ∷ after) ≡ Some d.0.0
first_at e [] d after a h = simp h
first_at e (f ∷ fs) d after a h = let i = All-head (λ g. independent e g ≡ true) f fs a in simp i (first_at e fs d after (All-tail (λ g. independent e g ≡ true) f fs a) h)

first_back : (e : Entry) → (fs : List Entry) → (n : ℕ) → FirstDependent e fs n → first_dependent e fs ≡ Some n
first_back e fs n r = ap (first_dependent e) r.whole ∙ first_at e r.before r.dependent r.after r.all_before r.depends ∙ ap (λ m. Some m) r.serial

none_is : (e : Entry) → (fs : List Entry) → first_dependent e fs ≡ None → All (λ f. independent e f ≡ true) fs
none_is e [] h = All-nil (λ f. independent e f ≡ true)
none_is e (f ∷ fs) h = split_on (independent e f)
    (λ i. let k : first_dependent e fs ≡ None = simp i at h in All-cons (λ g. independent e g ≡ true) f fs i (none_is e fs k))
    (λ i. let k : Some f.0.0 ≡ None = simp i at h in absurd cc)

none_back : (e : Entry) → (fs : List Entry) → All (λ f. independent e f ≡ true) fs → first_dependent e fs ≡ None
none_back e [] a = refl
none_back e (f ∷ fs) a = let i = All-head (λ g. independent e g ≡ true) f fs a in simp i (none_back e fs (All-tail (λ g. independent e g ≡ true) f fs a))

exactly : (s : State) → (m : ℕ) → (e : Entry) → (fs : List Entry) → (a : Answer) → a ≡ answer_among s e fs → m ≡ e.0.0 →
    ((n : ℕ) → (a ≡ (Refused (DependsOn n), s)) ↔ FirstDependent e fs n) × (((t : State) × (a ≡ (Struck m, t))) ↔ All (λ f. independent e f ≡ true) fs)
exactly s m e fs a q k = (
  λ n. (λ h. first_is e fs n (tells n (first_dependent e fs) (sym q ∙ h)), λ r. q ∙ ap (answer_dependent s e fs) (first_back e fs n r)),
  (λ h. none_is e fs (told h.0 (first_dependent e fs) (sym q ∙ h.1)), λ r. (struck_out s e.0 (serials_behind e fs), q ∙ ap (answer_dependent s e fs) (none_back e fs r) ∙ ap (λ i. (Struck i, struck_out s e.0 (serials_behind e fs))) (sym k))),
)
  where
    tells : (n : ℕ) → (o : Option ℕ) → ◌≡◌ {A = Answer} (answer_dependent s e fs o) (Refused (DependsOn n), s) → o ≡ Some n
    tells n (Some j) h = let r : Refused (DependsOn j) ≡ Refused (DependsOn n) = ap (λ (x : Answer). x.0) h in cc
    tells n None h = let r : Struck e.0.0 ≡ Refused (DependsOn n) = ap (λ (x : Answer). x.0) h in absurd cc

    told : (t : State) → (o : Option ℕ) → ◌≡◌ {A = Answer} (answer_dependent s e fs o) (Struck m, t) → o ≡ None
    told t None h = refl
    told t (Some j) h = let r : Refused (DependsOn j) ≡ Struck m = ap (λ (x : Answer). x.0) h in absurd cc

pub all_exactly : (s : State) → AllExactly s
all_exactly s m e c f =
    let k = serial_is m (entries s.base s.standing) e f in
    let a : ◌≡◌ {A = Answer} (answer (Strike m) s) (answer_among s e (later m (entries s.base s.standing))) =
    in_time (Strike m) s c ∙ ap (answer_strike s) f ∙ ap (λ n. answer_among s e (later n (entries s.base s.standing))) (sym k) in
    let x = exactly s m e (later m (entries s.base s.standing)) (answer (Strike m) s) a k in
    record { refused = x.0; accepted = x.1 }

-- ---- all of it

read_back : (s : State) → IsSession s → ReadBack s
read_back s i most = journal_kept s i.first most i.redoable (all_standing s.base s.stack s.standing i.standing i.redoable) i.within

pub sessions_promised : SessionsPromised
sessions_promised s i = record {
  base = refl;
  made = plans_made s i;
  undos = undos_redone s i;
  strikes = strikes_redone s i;
  redos = redos_struck s i;
  exactly = all_exactly s;
  refused = refused_leaves s;
  read_back = read_back s i;
}

leads_kept : (cs : List Call) → (s : State) → (rs : List Reply) → (t : State) → IsSession s → Leads cs s rs t → IsSession t × (t.base ≡ s.base)
leads_kept [] s [] t i l = subst (λ (x : State). IsSession x × (x.base ≡ s.base)) (sym l) (i, refl)
leads_kept (c ∷ cs) s (r ∷ rs) t i l =
    let k = sessions_kept c r s l.0 i l.1 in
    let w = leads_kept cs l.0 rs t k.0 l.2 in
    (w.0, w.1 ∙ k.1)
leads_kept cs s rs t i l = absurd l

pub headline : Headline
headline plan sound untagged cs rs s l =
    let w = leads_kept cs (opened plan) rs s (sessions_begin plan sound untagged) l in
    subst (λ p. Promised p s) w.1 (sessions_promised s w.0)
