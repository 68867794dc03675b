-- What holds on the way that commands lead, and after all edits that were done are undone.
use Rattle.std.specs.Prelude.{◌≡◌, ◌⊎◌, ◌<◌, ℕ, zero, suc, List, [], ◌∷◌, length}
use Rattle.balise_rules.specs.declared.refusal.Refusal.{Refusal}
use Rattle.balise_rules.specs.declared.refusal.Refusal.TheVariants.{OutOfMemory, Worn}
use Rattle.balise_rules.specs.Addresses.{Command}
use Rattle.balise_rules.specs.Plan.{Plan, IsSound}
use Rattle.balise_rules.specs.Session.{State, Call, Reply, Ask, Undo, Done, Undone, Refused, Answers, opened, held}
use Rattle.balise_strike_laws.specs.Headline.{Promised}
use Rattle.balise_strike_laws.specs.Sessions.{Untagged, Leads}

-- each state that these commands lead through has P, the first and the last too
abbrev pub EachOnTheWay : (P : State → Type 0) → (cs : List Call) → (s : State) → (rs : List Reply) → (t : State) → Leads cs s rs t → Type 0
EachOnTheWay P [] s [] t w = P t
EachOnTheWay P [] s (r ∷ rs) t w = ⊥
EachOnTheWay P (c ∷ cs) s [] t w = ⊥
EachOnTheWay P (c ∷ cs) s (r ∷ rs) t w = P s × EachOnTheWay P cs w.0 rs t w.2

-- For every sound plan that no serial tags and every list of commands: all of it holds of each state between.
abbrev pub PromisedOnTheWay : Type 0
PromisedOnTheWay = (plan : Plan) → IsSound plan → Untagged plan → (cs : List Call) → (rs : List Reply) → (t : State) → (w : Leads cs (opened plan) rs t) → EachOnTheWay (Promised plan) cs (opened plan) rs t w

-- these edits were accepted, one after another
abbrev pub AllDone : List Command → State → State → Type 0
AllDone [] s t = t ≡ s
AllDone (c ∷ cs) s t = (u : State) × ((n : ℕ) × (Answers (Ask c) s (Done n) u × AllDone cs u t))

-- this number of undos was accepted, one after another
abbrev pub AllUndone : ℕ → State → State → Type 0
AllUndone zero s t = t ≡ s
AllUndone (suc k) s t = (u : State) × ((n : ℕ) × (Answers Undo s (Undone n) u × AllUndone k u t))

-- Nothing stands, and the plan is the one first read.
pub record IsUnmade (plan : Plan) (t : State) : Type 0 where
  pub standing : t.standing ≡ []
  pub plan_is : held t ≡ plan

-- As many accepted undos as edits were accepted give the plan first read; and each of them is refused only where the session takes no more commands, or memory runs out.
abbrev pub EditsUndone : Type 0
EditsUndone =
    (plan : Plan) → IsSound plan → Untagged plan → (cs : List Command) → (s : State) → AllDone cs (opened plan) s →
    ((t : State) → AllUndone (length cs) s t → IsUnmade plan t)
    × ((k : ℕ) → k < length cs → (t : State) → AllUndone k s t → (r : Refusal) → (u : State) → Answers Undo t (Refused r) u → (r ≡ Worn) ⊎ (r ≡ OutOfMemory))
