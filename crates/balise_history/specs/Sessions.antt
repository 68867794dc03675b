-- A session as it is seen, and its answers as replies.
use Rattle.std.specs.Prelude.{◌≡◌, ◌+◌, ◌≤◌, ◌^◌, ℕ, Result, Ok, Err}
use Rattle.balise_rules.specs.declared.refusal.Refusal.{Refusal}
use Rattle.balise_rules.specs.Session.{State, Reply, Refused, most_commands}
use Rattle.balise_history.specs.Held.{Edited, state_at}

-- its state, and how many changes were made of its plan
pub record Seen : Type 0 where
  pub state : State
  pub changes : ℕ

abbrev pub seen_at : ℕ → Edited → Seen
seen_at count e = record { state = state_at count e; changes = e.changes }

-- The numbers stay in their bounds: `count` commands are counted, and a journal has at most 4,000,000,000 entries, each
-- done and perhaps struck.
pub record IsWithin (e : Edited) (count : ℕ) : Type 0 where
  pub few : count ≤ 1000000
  pub serials : e.serial ≤ 4000000000 + count
  pub changes : e.changes ≤ 2 ^ 62 + 8000000000 + count

abbrev pub reply_of : {A : Type 0} → (A → Reply) → Result A Refusal → Reply
reply_of reply (Ok a) = reply a
reply_of reply (Err r) = Refused r

-- each accepted command is one change
abbrev pub ChangesOnce : Seen → Seen → Type 0
ChangesOnce s t = t.changes + s.state.count ≡ s.changes + t.state.count

-- it takes no more commands
abbrev pub IsWorn : State → Type 0
IsWorn s = most_commands ≤ s.count
