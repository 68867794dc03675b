-- The numbers of a session stay in their bounds.
use Rattle.std.proofs.Common.{◌≤◌, ◌<◌, ◌+◌, ℕ, suc, eqb, List, [], ◌∷◌, Option, Some, None, Result, Ok, Err, find, subst, arith}
use Rattle.balise_rules.specs.declared.refusal.Refusal.{Refusal}
use Rattle.balise_rules.specs.Addresses.{edit_of}
use Rattle.balise_rules.specs.Edits.{Edit, Item}
use Rattle.balise_rules.specs.Doing.{refusal}
use Rattle.balise_rules.specs.Paths.{Entry}
use Rattle.balise_rules.specs.Session.{State, Removed, Call, Reply, Ask, Undo, Redo, Strike, held, last, later, entries, first_dependent, answer_in_time, answer_accepted, answer_edit, answer_undo, answer_redo, answer_strike, answer_dependent}
use Rattle.balise_history.specs.Held.{Edited, state_at, Accepts}
use Rattle.balise_history.specs.Sessions.{IsWithin}

abbrev Next : State → Reply × State → Type 0
Next s a = a.1.serial ≤ suc s.serial

accepted-next : (s : State) (e : Edit) (r : Option Refusal) → Next s (answer_accepted s e r)
accepted-next s e (Some r) = omega arith
accepted-next s e None = omega arith

edit-next : (s : State) (e : Result Edit Refusal) → Next s (answer_edit s e)
edit-next s (Err r) = omega arith
edit-next s (Ok e) = accepted-next s e (refusal e (held s))

undo-next : (s : State) (e : Option Item) → Next s (answer_undo s e)
undo-next s None = omega arith
undo-next s (Some e) = omega arith

redo-next : (s : State) (rs : List Removed) → Next s (answer_redo s rs)
redo-next s [] = omega arith
redo-next s (r ∷ rs) = omega arith

dependent-next : (s : State) (e : Entry) (fs : List Entry) (d : Option ℕ) → Next s (answer_dependent s e fs d)
dependent-next s e fs (Some n) = omega arith
dependent-next s e fs None = omega arith

strike-next : (s : State) (e : Option Entry) → Next s (answer_strike s e)
strike-next s None = omega arith
strike-next s (Some e) = dependent-next s e (later e.0.0 (entries s.base s.standing)) (first_dependent e (later e.0.0 (entries s.base s.standing)))

serial-next : (c : Call) (s : State) → Next s (answer_in_time c s)
serial-next (Ask c) s = edit-next s (edit_of c (held s))
serial-next Undo s = undo-next s (last s.standing)
serial-next Redo s = redo-next s s.stack
serial-next (Strike n) s = strike-next s (find (λ e. eqb n e.0.0) (entries s.base s.standing))

pub within-next : (c : Call) (s t : Edited) (r : Reply) (n : ℕ) → Accepts c s r t → n < 1000000 → IsWithin s n → IsWithin t (n + 1)
within-next c s t r n a l w =
    let k : t.serial ≤ suc s.serial = subst (λ (x : Reply × State). x.1.serial ≤ suc s.serial) (a.0 0) (serial-next c (state_at 0 s)) in
    let x = w.serials in
    let y = w.changes in
    let z = a.1 in
    record { few = omega arith; serials = omega arith; changes = omega arith }
