-- What a command leaves: the plan first read, and where it is refused all.
use Rattle.std.proofs.Common.{◌≡◌, inl, inr, ℕ, nat_le, Bool, true, false, cond, List, [], ◌∷◌, Option, Some, None, Result, Ok, Err, find, eqb, refl, sym, ap, ◌∙◌}
use Rattle.balise_rules.specs.declared.refusal.Refusal.{Refusal}
use Rattle.balise_rules.specs.declared.refusal.Refusal.TheVariants.{Worn}
use Rattle.balise_rules.specs.Doing.{refusal}
use Rattle.balise_rules.specs.Addresses.{edit_of}
use Rattle.balise_rules.specs.Edits.{Edit, Item}
use Rattle.balise_rules.specs.Paths.{Entry}
use Rattle.balise_rules.specs.Session.{Ask, Call, Redo, Refused, Removed, State, Strike, Undo, answer, answer_accepted, answer_dependent, answer_edit, answer_in_time, answer_redo, answer_strike, answer_undo, entries, first_dependent, held, last, later, most_commands}
use Rattle.balise_strike_laws.specs.Redoing.{Answer}
use Rattle.balise_strike_laws.specs.Headline.{RefusedLeaves}

-- the plan first read stays, and all does where the reply is a refusal
abbrev Leaves : State → Answer → Type 0
Leaves s a = ((r : Refusal) → a.0 ≡ Refused r → a.1 ≡ s) × (a.1.base ≡ s.base)

accepted_leaves : (s : State) → (e : Edit) → (r : Option Refusal) → Leaves s (answer_accepted s e r)
accepted_leaves s e (Some r) = (λ _ _. refl, refl)
accepted_leaves s e None = (λ r h. absurd cc, refl)

edit_leaves : (s : State) → (e : Result Edit Refusal) → Leaves s (answer_edit s e)
edit_leaves s (Err r) = (λ _ _. refl, refl)
edit_leaves s (Ok e) = accepted_leaves s e (refusal e (held s))

undo_leaves : (s : State) → (e : Option Item) → Leaves s (answer_undo s e)
undo_leaves s None = (λ _ _. refl, refl)
undo_leaves s (Some e) = (λ r h. absurd cc, refl)

redo_leaves : (s : State) → (rs : List Removed) → Leaves s (answer_redo s rs)
redo_leaves s [] = (λ _ _. refl, refl)
redo_leaves s (x ∷ rs) = (λ r h. absurd cc, refl)

dependent_leaves : (s : State) → (e : Entry) → (fs : List Entry) → (d : Option ℕ) → Leaves s (answer_dependent s e fs d)
dependent_leaves s e fs (Some serial) = (λ _ _. refl, refl)
dependent_leaves s e fs None = (λ r h. absurd cc, refl)

strike_leaves : (s : State) → (e : Option Entry) → Leaves s (answer_strike s e)
strike_leaves s None = (λ _ _. refl, refl)
strike_leaves s (Some e) = dependent_leaves s e (later e.0.0 (entries s.base s.standing)) (first_dependent e (later e.0.0 (entries s.base s.standing)))

in_time_leaves : (c : Call) → (s : State) → Leaves s (answer_in_time c s)
in_time_leaves (Ask c) s = edit_leaves s (edit_of c (held s))
in_time_leaves Undo s = undo_leaves s (last s.standing)
in_time_leaves Redo s = redo_leaves s s.stack
in_time_leaves (Strike serial) s = strike_leaves s (find (λ e. eqb serial e.0.0) (entries s.base s.standing))

-- what holds of an answer in time, and of the reply that the session is worn, holds of each answer
pub if_in_time : (P : Answer → Type 0) → (c : Call) → (s : State) → P (Refused Worn, s) → P (answer_in_time c s) → P (answer c s)
if_in_time P c s w k = by (nat_le most_commands s.count)
  where
    by : (b : Bool) → P (cond b (Refused Worn, s) (answer_in_time c s))
    by true = w
    by false = k

answer_leaves : (c : Call) → (s : State) → Leaves s (answer c s)
answer_leaves c s = if_in_time (Leaves s) c s (λ _ _. refl, refl) (in_time_leaves c s)

pub base_in_time : (c : Call) → (s : State) → (answer_in_time c s).1.base ≡ s.base
base_in_time c s = (in_time_leaves c s).1

pub base_kept : (c : Call) → (s : State) → (answer c s).1.base ≡ s.base
base_kept c s = (answer_leaves c s).1

pub refused_leaves : (s : State) → RefusedLeaves s
refused_leaves s c r t (inl q) = ap (λ (a : Answer). a.1) q ∙ (answer_leaves c s).0 r (sym (ap (λ (a : Answer). a.0) q))
refused_leaves s c r t (inr w) = w.2
