-- What stays within its bounds where a journal is read.
use Rattle.std.proofs.Common.{◌≡◌, ◌<◌, ◌+◌, ◌∙◌, ⊎_elim, ℕ, suc, eqb, List, [], ◌∷◌, true, Option, Some, None, Result, Ok, Err, OnOk, find, length, refl, sym, ap, subst, arith}
use Rattle.std.specs.Prelude.{is_none}
use Rattle.std.proofs.lemmas.List.{length-append}
use Rattle.balise_rules.specs.declared.refusal.Refusal.{Refusal}
use Rattle.balise_rules.specs.declared.refusal.Refusal.TheVariants.{DependsOn, NoSuchEdit}
use Rattle.balise_rules.specs.Edits.{Item}
use Rattle.balise_rules.specs.Journal.{Line}
use Rattle.balise_rules.specs.Opening.{item_of, last_serial, with_entry, with_item}
use Rattle.balise_rules.specs.Paths.{Entry}
use Rattle.balise_rules.specs.Session.{State, Removed, Reply, Strike, Struck, Refused, held, top, later, entries, first_dependent, answer_strike, answer_dependent}
use Rattle.balise_rules.proofs.Cases.{unsome}
use Rattle.balise_edit_laws.proofs.LinesReady.{when_some}
use Rattle.balise_history.specs.Held.{Edited, state_at, Accepts, Answered}
use Rattle.balise_history.specs.Openings.{Enters, IsOpening}

-- one more entry after those that stand, and nothing undone
pub record OneMore (s t : State) : Type 0 where
  pub none_undone : length s.stack ≡ 0
  pub stack : t.stack ≡ s.stack
  pub serial : t.serial ≡ s.serial
  pub standing : length t.standing ≡ suc (length s.standing)

pub one-more : (s t : State) (l : Line) → with_entry s l ≡ Some t → OneMore s t
one-more s t l h =
    let w = when_some (is_none (top s.stack)) (with_item s (item_of (last_serial s.standing) s.serial l (held s))) t h in
    by (item_of (last_serial s.standing) s.serial l (held s)) (none s.stack w.0) w.1
  where
    none : (rs : List Removed) → is_none (top rs) ≡ true → length rs ≡ 0
    none [] h = refl
    none (r ∷ rs) h = absurd cc

    by : (o : Option Item) → length s.stack ≡ 0 → with_item s o ≡ Some t → OneMore s t
    by None z q = absurd cc
    by (Some e) z q =
        let k = unsome q in
        record {
          none_undone = z;
          stack = ap (λ (x : State). x.stack) (sym k);
          serial = ap (λ (x : State). x.serial) (sym k);
          standing = ap (λ (x : State). length x.standing) (sym k) ∙ (let n = length-append s.standing (e ∷ []) in omega arith);
        }

pub entry-within : (s t : Edited) (l : Line) → IsOpening s → with_entry (state_at 0 s) l ≡ Some (state_at 0 t) → t.changes ≡ s.changes + 1 → length t.standing + length t.stack < t.serial → IsOpening t
entry-within s t l o h c f =
    let w = one-more (state_at 0 s) (state_at 0 t) l h in
    let a : length s.stack ≡ 0 = w.none_undone in
    let b : length t.stack ≡ 0 = ap (λ (x : List Removed). length x) w.stack ∙ a in
    let d : t.serial ≡ s.serial = w.serial in
    let e : length t.standing ≡ suc (length s.standing) = w.standing in
    let g = o.entered a in
    let i = o.serials in
    record { serials = omega arith; few = f; changes = omega arith; entered = λ z. omega arith }

-- what a line leaves, whether it fits or not
pub enters-within : {A : Type 0} (s t : Edited) (l : Line) (r : Result A Refusal) → IsOpening s → Enters l s r t → IsOpening t
enters-within s t l (Ok u) o w = entry-within s t l o w.0 w.1 w.2
enters-within s t l (Err r) o w = ⊎_elim (λ e. subst IsOpening (sym e) o) (λ n. entry-within s t (record l { noted = n.1.0 }) o n.1.1.0 n.1.1.1 n.1.1.2) w.1

-- one more struck
pub record OneStruck (s t : State) : Type 0 where
  pub serial : t.serial ≡ s.serial
  pub stack : length t.stack ≡ suc (length s.stack)

abbrev Answer : Type 0
Answer = Reply × State

one-dependent : (s t : State) (n : ℕ) (e : Entry) (fs : List Entry) (d : Option ℕ) → ◌≡◌ {A = Answer} (answer_dependent s e fs d) (Struck n, t) → OneStruck s t
one-dependent s t n e fs (Some m) h = let q : Refused (DependsOn m) ≡ Struck n = ap (λ (x : Answer). x.0) h in absurd cc
one-dependent s t n e fs None h = record { serial = ap (λ (x : Answer). x.1.serial) (sym h); stack = ap (λ (x : Answer). length x.1.stack) (sym h) }

one-strike : (s t : State) (n : ℕ) (o : Option Entry) → ◌≡◌ {A = Answer} (answer_strike s o) (Struck n, t) → OneStruck s t
one-strike s t n None h = let q : Refused NoSuchEdit ≡ Struck n = ap (λ (x : Answer). x.0) h in absurd cc
one-strike s t n (Some e) h = one-dependent s t n e (later e.0.0 (entries s.base s.standing)) (first_dependent e (later e.0.0 (entries s.base s.standing))) h

pub strike-within : (s t : Edited) (m n : ℕ) → IsOpening s → Accepts (Strike m) s (Struck n) t → length t.standing + length t.stack < t.serial → IsOpening t
strike-within s t m n o a f =
    let w = one-strike (state_at 0 s) (state_at 1 t) n (find (λ e. eqb m e.0.0) (entries s.base s.standing)) (a.0 0) in
    let b : t.serial ≡ s.serial = w.serial in
    let c : length t.stack ≡ suc (length s.stack) = w.stack in
    let d = a.1 in
    let e = o.changes in
    let i = o.serials in
    record { serials = omega arith; few = f; changes = omega arith; entered = λ z. absurd (omega arith) }

-- what a strike leaves, whether it is accepted or not
pub strikes-within : {A : Type 0} (serial : A → ℕ) (s t : Edited) (m : ℕ) (r : Result A Refusal) → IsOpening s → Answered (Strike m) (λ x. Struck (serial x)) s r t → OnOk r (length t.standing + length t.stack < t.serial) → IsOpening t
strikes-within serial s t m (Ok x) o a f = strike-within s t m (serial x) o a f
strikes-within serial s t m (Err r) o a f = subst IsOpening (sym a.1) o
