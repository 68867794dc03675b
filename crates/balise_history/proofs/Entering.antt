-- What a line of a journal asks, and leaves.
use Rattle.std.proofs.Common.{◌≡◌, ◌<◌, ◌∙◌, inl, inr, ⊎_elim, ℕ, Bool, true, false, cond, ◌&&◌, nat_lt, List, [], ◌∷◌, ◌++◌, Option, Some, None, Result, Ok, Err, option_and_then, map, refl, sym, ap, subst, arith}
use Rattle.std.specs.Prelude.{is_none}
use Rattle.std.proofs.lemmas.Bool.{and_parts}
use Rattle.std.proofs.lemmas.Bool.Decides.{nat_tests}
use Rattle.balise_rules.specs.declared.refusal.Refusal.{Refusal}
use Rattle.balise_rules.specs.declared.refusal.Refusal.TheVariants.{JournalMismatch}
use Rattle.balise_rules.specs.declared.tag.Tag.{Tag}
use Rattle.balise_rules.specs.declared.tag.Tag.TheVariants.{Base}
use Rattle.balise_rules.specs.Packet.{Packet, IsSpelt}
use Rattle.balise_rules.specs.Plan as rules
use Rattle.balise_rules.specs.Plan.{telegram_at}
use Rattle.balise_rules.specs.Telegram.{Telegram, version_of}
use Rattle.balise_rules.specs.Accepting.{Unused, Spelt}
use Rattle.balise_rules.specs.Addresses.{packet_in}
use Rattle.balise_rules.specs.Edits.{Edit, Item}
use Rattle.balise_rules.specs.declared.tagged_edit.TaggedEdit.TheVariants.{DropGroup, InsertPacket}
use Rattle.balise_rules.specs.Notes.{noted}
use Rattle.balise_rules.specs.Doing.{done, refusal}
use Rattle.balise_rules.specs.Paths.{Entry}
use Rattle.balise_rules.specs.Journal.{Line, LineEdit, noted_of, same_noted}
use Rattle.balise_rules.specs.Opening.{edit_in, if_fits, inserting, or_nothing, packet_for, last_serial, with_entry, with_item}
use Rattle.balise_rules.specs.Session.{State, Removed, held, top}
use Rattle.balise_rules.proofs.Cases.{unsome}
use Rattle.balise_edit_laws.specs.Along.{back_along}
use Rattle.balise_edit_laws.proofs.Histories.{kept_along}
use Rattle.balise_edit_laws.proofs.ReadyCommands.{word_spelt}
use Rattle.balise_edits.specs.Standing.{changed_to}
use Rattle.balise_plan.specs.Held.{Plan}
use Rattle.balise_strike_laws.proofs.Journals.{same_itself}
use Rattle.balise_strike_laws.proofs.Rising.{between-more, between-before, others-above}
use Rattle.balise_strike_laws.proofs.SessionsKept.{standing_within, openings_kept}
use Rattle.balise_history.specs.Held.{state_at}
use Rattle.balise_history.specs.Lists.{History, items_of, removed_of}
use Rattle.balise_history.specs.Openings.{comes_next, Enters, EntersIn}
use Rattle.balise_history.proofs.Adding.{added}
use Rattle.balise_history.proofs.Entries.{items-append}
use Rattle.balise_history.proofs.Few.{few-held}
use Rattle.balise_history.proofs.Taking.{held_state}
use Rattle.balise_history.proofs.Answering.{view, HeldIn, leaves}

-- a packet of a line is spelt in the version of its telegram
insert-spelt : (e : Edit) (plan : rules.Plan) (g : Tag) (t : ℕ) (a : Option Tag) (b : List Bool) → edit_in (InsertPacket g t a b) plan ≡ Some e → Spelt e plan
insert-spelt e plan g t a b h = by (telegram_at g t plan) refl h
  where
    read : (y : Telegram) → telegram_at g t plan ≡ Some y → (r : Result Packet Refusal) → packet_in (version_of y) b ≡ r → inserting g t a (or_nothing r) ≡ Some e → Spelt e plan
    read y k (Err r) q h = absurd cc
    read y k (Ok x) q h = subst (λ f. Spelt f plan) (unsome h) (λ z w. subst (λ (v : Telegram). IsSpelt (version_of v) x) (unsome (sym k ∙ w)) (word_spelt (version_of y) b x q))

    by : (o : Option Telegram) → telegram_at g t plan ≡ o → inserting g t a (option_and_then (packet_for b) o) ≡ Some e → Spelt e plan
    by None k h = absurd cc
    by (Some y) k h = read y k (packet_in (version_of y) b) refl h

pub line-spelt : (l : LineEdit) (e : Edit) (plan : rules.Plan) → edit_in l plan ≡ Some e → Spelt e plan
line-spelt (InsertPacket g t a b) e plan h = insert-spelt e plan g t a b h
line-spelt l e plan h = subst (λ f. Spelt f plan) (unsome h) tt

-- the serial of a line that may come next tags nothing
pub line-unused : (p : Plan) (h : History) (next serial : ℕ) → HeldIn p h next → comes_next h next serial ≡ true → Unused serial p.groups
line-unused p h next serial o c =
    let base = back_along h.standing p.groups in
    let is = items_of h.standing in
    let s : State = held_state base h.standing h.stack next in
    let a = and_parts (is_none (top (map removed_of h.stack))) (nat_lt (last_serial is) serial && nat_lt serial next) c in
    let b = and_parts (nat_lt (last_serial is) serial) (nat_lt serial next) a.1 in
    let low : last_serial is < serial = let q = b.0 in grind (arith, nat_tests) in
    let high : serial < next = let q = b.1 in grind (arith, nat_tests) in
    let x : Item = (serial, DropGroup (Base 0)) in
    let w = between-more next x is low high (standing_within s o.session) in
    let n = others-above 0 serial serial (omega arith) is (between-before 0 next x is w) in
    let st = o.session.standing in
    let k = kept_along is base st.sound st.unused st.spelt st.accepted in
    subst (Unused serial) (sym o.made_of) (k.2 serial n (o.session.untagged serial))

module _ (p : Plan) (h : History) (next : ℕ) (l : Line) (o : HeldIn p h next) where
  -- what a line that may come next gives
  comes : comes_next h next l.serial ≡ true → with_entry (state_at 0 (view p h next)) l ≡ with_item (state_at 0 (view p h next)) (if_fits l p.groups (edit_in l.edit p.groups))
  comes c =
      let a = and_parts (is_none (top (map removed_of h.stack))) (nat_lt (last_serial (items_of h.standing)) l.serial && nat_lt l.serial next) c in
      rw (a.0, a.1, ← o.made_of) refl

  pub not-next : comes_next h next l.serial ≡ false → with_entry (state_at 0 (view p h next)) l ≡ None
  not-next c = by (is_none (top (map removed_of h.stack))) (nat_lt (last_serial (items_of h.standing)) l.serial && nat_lt l.serial next) c
    where
      by : (a b : Bool) → (a && b) ≡ false → cond a (with_item (state_at 0 (view p h next)) (cond b (if_fits l (held (state_at 0 (view p h next))) (edit_in l.edit (held (state_at 0 (view p h next))))) None)) None ≡ None
      by true true q = absurd cc
      by true false q = refl
      by false b q = refl

  -- it isn't of the plan
  pub no-edit : comes_next h next l.serial ≡ true → edit_in l.edit p.groups ≡ None → with_entry (state_at 0 (view p h next)) l ≡ None
  no-edit c e = comes c ∙ (rw e refl)

  pub not-accepted : comes_next h next l.serial ≡ true → (e : Edit) → edit_in l.edit p.groups ≡ Some e → (r : Refusal) → refusal e p.groups ≡ Some r → with_entry (state_at 0 (view p h next)) l ≡ None
  not-accepted c e q r f = comes c ∙ (rw (q, f) refl)

  pub not-noted : comes_next h next l.serial ≡ true → (e : Edit) → edit_in l.edit p.groups ≡ Some e → refusal e p.groups ≡ None → same_noted (noted_of e (noted e p.groups)) l.noted ≡ false → with_entry (state_at 0 (view p h next)) l ≡ None
  not-noted c e q f n = comes c ∙ (rw (q, f, n) refl)

  pub is-entered : comes_next h next l.serial ≡ true → (e : Edit) → edit_in l.edit p.groups ≡ Some e → refusal e p.groups ≡ None → same_noted (noted_of e (noted e p.groups)) l.noted ≡ true →
      (f : Entry) (q : Plan) (k : History) → f ≡ ((l.serial, e), noted e p.groups) → q ≡ changed_to (done (l.serial, e) p.groups) p → k.standing ≡ h.standing ++ f ∷ [] → k.stack ≡ [] → EntersIn {A = Unit {0}} l next p h (Ok tt) q k
  is-entered c e g r n f q k x a b d =
      let base = back_along h.standing p.groups in
      let is = items_of h.standing in
      let it : Item = (l.serial, e) in
      let s : State = state_at 0 (view p h next) in
      let w : with_entry s l ≡ Some (record s { standing = is ++ it ∷ [] }) = comes c ∙ (rw (g, r, n) refl) in
      let i = (openings_kept.0 l s (record s { standing = is ++ it ∷ [] }) o.session w).0 in
      let none : map removed_of h.stack ≡ [] = no-top (map removed_of h.stack) (and_parts (is_none (top (map removed_of h.stack))) (nat_lt (last_serial is) l.serial && nat_lt l.serial next) c).0 in
      let i1 = rw none at i in
      let hold = added base p.groups h.standing h.stack next next it o i1 in
      let v = leaves p h next q k (done it p.groups) (h.standing ++ (it, noted e p.groups) ∷ []) [] (is ++ it ∷ []) hold a (b ∙ ap (λ (y : Entry). h.standing ++ y ∷ []) x) d (items-append h.standing ((it, noted e p.groups) ∷ [])) in
      (v.held, rw (v.base, v.standing, v.stack_is, ← none) w, v.changes)
    where
      no-top : (rs : List Removed) → is_none (top rs) ≡ true → rs ≡ []
      no-top [] h = refl
      no-top (r ∷ rs) h = absurd cc

-- the edit is done, and notes something else than the line says
pub is-noted-else : (p : Plan) (h : History) (next : ℕ) (l : Line) → HeldIn p h next → comes_next h next l.serial ≡ true → (e : Edit) → edit_in l.edit p.groups ≡ Some e → refusal e p.groups ≡ None →
    same_noted (noted_of e (noted e p.groups)) l.noted ≡ false → (f : Entry) (q : Plan) (k : History) → f ≡ ((l.serial, e), noted e p.groups) → q ≡ changed_to (done (l.serial, e) p.groups) p → k.standing ≡ h.standing ++ f ∷ [] → k.stack ≡ [] →
    EntersIn {A = Unit {0}} l next p h (Err JournalMismatch) q k
is-noted-else p h next l o c e g r n f q k x a b d =
    let m = noted_of e (noted e p.groups) in
    let w = is-entered p h next (record l { noted = m }) o c e g r (same_itself m) f q k x a b d in
    (inr (refl, not-noted p h next l o c e g r n), inr (refl, (m, w)))

-- so it is seen
pub enters-seen : {A : Type 0} (l : Line) (next : ℕ) (p : Plan) (h : History) (r : Result A Refusal) (q : Plan) (k : History) → EntersIn l next p h r q k → Enters l (view p h next) r (view q k next)
enters-seen l next p h (Ok u) q k w = (w.1, w.2, few-held q.groups k.standing k.stack next w.0)
enters-seen l next p h (Err r) q k w =
    (w.0, ⊎_elim (λ s. inl (stays s.0 s.1 s.2)) (λ n. inr (n.0, (n.1.0, (n.1.1.1, n.1.1.2, few-held q.groups k.standing k.stack next n.1.1.0)))) w.1)
  where
    stays : q ≡ p → k.standing ≡ h.standing → k.stack ≡ h.stack → view q k next ≡ view p h next
    stays a b c = rw (a, b, c) refl
