-- A plan with the entries that made it: what is held, and what is seen of it.
use Rattle.std.specs.Prelude.{◌≡◌, ◌⊎◌, IsTrue, ◌+◌, ℕ, suc, List, [], ◌∷◌, map, Result, Ok, Err}
use Rattle.balise_rules.specs.declared.refusal.Refusal.{Refusal}
use Rattle.balise_rules.specs.declared.refusal.Refusal.TheVariants.{OutOfMemory}
use Rattle.balise_rules.specs.Plan as rules
use Rattle.balise_rules.specs.Edits.{Item}
use Rattle.balise_rules.specs.Notes.{noted, without_content}
use Rattle.balise_rules.specs.Paths.{Entry}
use Rattle.balise_rules.specs.Session.{State, Removed, Call, Reply, Refused, made, entries, put_back, answer_in_time, takes_memory}
use Rattle.balise_edit_laws.specs.Along.{back_along}
use Rattle.balise_strike_laws.specs.Sessions.{IsSession}
use Rattle.balise_history.specs.Lists.{Gone, items_of, removed_of}

-- The plan first read; the standing edits; those undone or struck, the last one first; the next serial; and how many changes were made of the plan.
pub record Edited : Type 0 where
  pub base : rules.Plan
  pub standing : List Item
  pub stack : List Removed
  pub serial : ℕ
  pub changes : ℕ

-- a session's state of that, after n commands
abbrev pub state_at : ℕ → Edited → State
state_at n e = record { base = e.base; standing = e.standing; stack = e.stack; serial = e.serial; count = n }

-- what is seen: the plan first read is what the plan becomes when the standing entries are taken back, the last one first
abbrev pub seen : rules.Plan → List Entry → List Gone → ℕ → ℕ → Edited
seen groups standing stack serial changes = record {
  base = back_along standing groups;
  standing = items_of standing;
  stack = map removed_of stack;
  serial = serial;
  changes = changes;
}

-- each entry of the stack has what it would note, without what would be taken out, once those above it are put back
abbrev pub AllKept : rules.Plan → List Item → List Gone → Type 0
AllKept base items [] = Unit {0}
AllKept base items (r ∷ rs) = (without_content (noted r.0.0.1 (made base items)) ≡ r.0.1) × AllKept base (put_back (removed_of r) items) rs

-- The edits are those of a session, each standing entry has what it noted, and the plan is what they make.
pub record Holds (base groups : rules.Plan) (standing : List Entry) (stack : List Gone) (serial : ℕ) : Type 0 where
  pub session : IsSession (record { base = base; standing = items_of standing; stack = map removed_of stack; serial = serial; count = 0 })
  pub noted_there : standing ≡ entries base (items_of standing)
  pub made_of : groups ≡ made base (items_of standing)
  pub kept : AllKept base (items_of standing) stack

abbrev pub IsHeld : rules.Plan → List Entry → List Gone → ℕ → Type 0
IsHeld groups standing stack serial = Holds (back_along standing groups) groups standing stack serial

-- a command is accepted, by one change of the plan, whatever was counted before
abbrev pub Accepts : Call → Edited → Reply → Edited → Type 0
Accepts c s r t = ((n : ℕ) → ◌≡◌ {A = Reply × State} (answer_in_time c (state_at n s)) (r, state_at (suc n) t)) × (t.changes ≡ s.changes + 1)

-- it is refused, or is out of memory where it may take some, and all stays
abbrev pub Refuses : Call → Edited → Refusal → Edited → Type 0
Refuses c s r t = (((r ≡ OutOfMemory) × IsTrue (takes_memory c (state_at 0 s))) ⊎ ((n : ℕ) → ◌≡◌ {A = Reply × State} (answer_in_time c (state_at n s)) (Refused r, state_at n s))) × (t ≡ s)

abbrev pub Answered : {A : Type 0} → Call → (A → Reply) → Edited → Result A Refusal → Edited → Type 0
Answered c reply s (Ok a) t = Accepts c s (reply a) t
Answered c reply s (Err r) t = Refuses c s r t
