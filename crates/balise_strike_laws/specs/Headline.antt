-- What a session promises, for every sound plan and every list of commands.
use Rattle.std.specs.Prelude.{◌≡◌, ◌↔◌, ◌≤◌, ◌<◌, ℕ, suc, true, false, eqb, List, ◌∷◌, ◌++◌, All, find, Option, Some, Result, Ok}
use Rattle.balise_rules.specs.declared.refusal.Refusal.{Refusal}
use Rattle.balise_rules.specs.declared.refusal.Refusal.TheVariants.{DependsOn, Worn}
use Rattle.balise_rules.specs.Plan.{Plan, IsSound}
use Rattle.balise_rules.specs.Paths.{Entry}
use Rattle.balise_rules.specs.Behind.{independent}
use Rattle.balise_rules.specs.Session.{State, Call, Undo, Redo, Strike, Reply, Undone, Redone, Struck, Refused, opened, most_commands, entries, later, answer, Answers}
use Rattle.balise_rules.specs.Journal.{lines, undone}
use Rattle.balise_rules.specs.Opening.{most_serial, from_journal}
use Rattle.balise_strike_laws.specs.Redoing.{Answer, counted}
use Rattle.balise_strike_laws.specs.Sessions.{Untagged, IsSession, IsMade, Leads}

-- A command takes back what led from s to t: it gives plan, standing edits and stack as they were, and is refused only where the session takes no more commands.
pub record TakesBack (c : Call) (r : Reply) (s t : State) : Type 0 where
  pub back : t.count < most_commands → ◌≡◌ {A = Answer} (answer c t) (r, counted s (suc t.count))
  pub worn : most_commands ≤ t.count → ◌≡◌ {A = Answer} (answer c t) (Refused Worn, t)

-- an undo is taken back by a redo
abbrev pub UndosRedone : State → Type 0
UndosRedone s = (n : ℕ) → (t : State) → ◌≡◌ {A = Answer} (answer Undo s) (Undone n, t) → TakesBack Redo (Redone n) s t

-- so is a strike
abbrev pub StrikesRedone : State → Type 0
StrikesRedone s = (m n : ℕ) → (t : State) → ◌≡◌ {A = Answer} (answer (Strike m) s) (Struck n, t) → TakesBack Redo (Redone n) s t

-- a redo is taken back by a strike of the edit that it put back
abbrev pub RedosStruck : State → Type 0
RedosStruck s = (n : ℕ) → (t : State) → ◌≡◌ {A = Answer} (answer Redo s) (Redone n, t) → TakesBack (Strike n) (Struck n) s t

-- The first of the entries after e that isn't independent of it, by its serial.
pub record FirstDependent (e : Entry) (fs : List Entry) (n : ℕ) : Type 0 where
  pub before : List Entry
  pub dependent : Entry
  pub after : List Entry
  pub whole : fs ≡ before ++ dependent ∷ after
  pub all_before : All (λ f. independent e f ≡ true) before
  pub depends : independent e dependent ≡ false
  pub serial : dependent.0.0 ≡ n

-- A strike of an edit that stands is refused as dependent exactly where a later one isn't independent of it, with the first such serial, and is accepted exactly where all are.
pub record StrikesExactly (s : State) (m : ℕ) (e : Entry) : Type 0 where
  pub refused : (n : ℕ) → (◌≡◌ {A = Answer} (answer (Strike m) s) (Refused (DependsOn n), s)) ↔ FirstDependent e (later m (entries s.base s.standing)) n
  pub accepted : ((t : State) × (◌≡◌ {A = Answer} (answer (Strike m) s) (Struck m, t))) ↔ All (λ f. independent e f ≡ true) (later m (entries s.base s.standing))

abbrev pub AllExactly : State → Type 0
AllExactly s = (m : ℕ) → (e : Entry) → s.count < most_commands → find (λ f. eqb m f.0.0) (entries s.base s.standing) ≡ Some e → StrikesExactly s m e

-- a refused command changes nothing
abbrev pub RefusedLeaves : State → Type 0
RefusedLeaves s = (c : Call) → (r : Refusal) → (t : State) → Answers c s (Refused r) t → t ≡ s

-- the session that is read from what another says has its plan, standing edits, stack and next serial; nothing of it is counted
abbrev pub ReadBack : State → Type 0
ReadBack s = s.serial ≤ most_serial → ◌≡◌ {A = Result State (Option ℕ)} (from_journal s.base s.serial (lines s) (undone s)) (Ok (counted s 0))

-- All of this holds of a state over the plan first read.
pub record Promised (plan : Plan) (s : State) : Type 0 where
  pub base : s.base ≡ plan
  pub made : IsMade s
  pub undos : UndosRedone s
  pub strikes : StrikesRedone s
  pub redos : RedosStruck s
  pub exactly : AllExactly s
  pub refused : RefusedLeaves s
  pub read_back : ReadBack s

-- For every state of a session.
abbrev pub SessionsPromised : Type 0
SessionsPromised = (s : State) → IsSession s → Promised s.base s

-- For every sound plan that no serial tags and every list of commands, out of memory at any of them included.
abbrev pub Headline : Type 0
Headline = (plan : Plan) → IsSound plan → Untagged plan → (cs : List Call) → (rs : List Reply) → (s : State) → Leads cs (opened plan) rs s → Promised plan s
