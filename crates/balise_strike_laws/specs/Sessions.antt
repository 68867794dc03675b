-- What holds of each state of a session, whatever commands led to it, and of each that is read from a journal.
use Rattle.std.specs.Prelude.{◌≡◌, ◌≤◌, ℕ, List, [], ◌∷◌, Some, Result, Ok}
use Rattle.balise_rules.specs.declared.refusal.Refusal.{Refusal}
use Rattle.balise_rules.specs.Plan.{Plan, IsSound}
use Rattle.balise_rules.specs.Accepting.{Unused}
use Rattle.balise_rules.specs.Session.{State, Call, Reply, opened, held, do_all, Answers}
use Rattle.balise_rules.specs.Journal.{Line, all_back}
use Rattle.balise_rules.specs.Opening.{opened_at, with_entry, with_undone}
use Rattle.balise_strike_laws.specs.Striking.{Standing}
use Rattle.balise_strike_laws.specs.InSession.{Between}
use Rattle.balise_strike_laws.specs.Redoing.{Redoable}

-- no serial tags anything in the plan
abbrev pub Untagged : Plan → Type 0
Untagged plan = (n : ℕ) → Unused n plan

-- The edits stand on the plan first read, which no serial tags; each item of the stack can be put back; and the serials of all of them rise from 1 and stay below the next one.
pub record IsSession (s : State) : Type 0 where
  pub untagged : Untagged s.base
  pub first : 1 ≤ s.serial
  pub standing : Standing s.base s.standing
  pub redoable : Redoable s.base s.standing s.stack
  pub within : Between 0 s.serial (all_back s.stack s.standing)

-- A session begins as one, and each command, whether memory is wanted or not, leaves one over the same plan first read.
abbrev pub SessionsBegin : Type 0
SessionsBegin = (plan : Plan) → IsSound plan → Untagged plan → IsSession (opened plan)

abbrev pub SessionsKept : Type 0
SessionsKept = (c : Call) → (r : Reply) → (s t : State) → IsSession s → Answers c s r t → IsSession t × (t.base ≡ s.base)

-- So does each step of reading a journal.
abbrev pub OpeningsBegin : Type 0
OpeningsBegin = (plan : Plan) → (next : ℕ) → (s : State) → IsSound plan → Untagged plan → opened_at plan next ≡ Some s → IsSession s

abbrev pub OpeningsKept : Type 0
OpeningsKept =
    ((l : Line) → (s t : State) → IsSession s → with_entry s l ≡ Some t → IsSession t × (t.base ≡ s.base))
    × ((n : ℕ) → (s t : State) → IsSession s → with_undone s n ≡ Some t → IsSession t × (t.base ≡ s.base))

-- The plan that a session holds: it is what the standing edits alone, done in order, make of the plan first read, none of them being refused; it is sound; and no serial from the next one on tags anything in it.
pub record IsMade (s : State) : Type 0 where
  pub made : ◌≡◌ {A = Result Plan Refusal} (do_all s.standing s.base) (Ok (held s))
  pub sound : IsSound (held s)
  pub unused : (n : ℕ) → s.serial ≤ n → Unused n (held s)

abbrev pub PlansMade : Type 0
PlansMade = (s : State) → IsSession s → IsMade s

-- what commands answer, one after another, out of memory at any of them included, and the state that they lead to
abbrev pub Leads : List Call → State → List Reply → State → Type 0
Leads [] s [] t = t ≡ s
Leads (c ∷ cs) s (r ∷ rs) t = (u : State) × Answers c s r u × Leads cs u rs t
Leads cs s rs t = ⊥
