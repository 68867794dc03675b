-- Edits of a list, each done on what those before it make, are taken back one after another.
use Rattle.std.specs.Prelude.{◌≡◌, ◌≢◌, ℕ, List, [], ◌∷◌, All}
use Rattle.balise_rules.specs.Plan.{Plan, IsSound}
use Rattle.balise_rules.specs.Edits.{Item}
use Rattle.balise_rules.specs.Doing.{done}
use Rattle.balise_rules.specs.Accepting.{Unused, Spelt}
use Rattle.balise_rules.specs.Back.{back}
use Rattle.balise_rules.specs.Paths.{Entry}
use Rattle.balise_rules.specs.Session.{made, entries, AllAccepted}
use Rattle.balise_edit_laws.specs.TakenBack.{IsReady}

-- each edit is ready on what those before it make
abbrev pub AllReady : Plan → List Item → Type 0
AllReady plan [] = Unit {0}
AllReady plan (e ∷ es) = IsReady e plan × AllReady (done e plan) es

-- each packet to be inserted is spelt in what those before it make
abbrev pub AllSpelt : Plan → List Item → Type 0
AllSpelt plan [] = Unit {0}
AllSpelt plan (e ∷ es) = Spelt e.1 plan × AllSpelt (done e plan) es

-- the serials tag nothing, and each is of one edit
abbrev pub AllUnused : Plan → List Item → Type 0
AllUnused plan [] = Unit {0}
AllUnused plan (e ∷ es) = Unused e.0 plan × All (λ f. f.0 ≢ e.0) es × AllUnused plan es

-- accepted one after another on a sound plan, all are ready, what they make is sound, and a serial of none of them tags what it did
abbrev pub KeptAlong : Type 0
KeptAlong =
    (es : List Item) → (plan : Plan) → IsSound plan → AllUnused plan es → AllSpelt plan es → AllAccepted plan es →
    AllReady plan es × IsSound (made plan es) × ((s : ℕ) → All (λ e. s ≢ e.0) es → Unused s plan → Unused s (made plan es))

-- edits taken back, the last one first
abbrev pub back_along : List Entry → Plan → Plan
back_along [] plan = plan
back_along (e ∷ es) plan = back e.0 e.1 (back_along es plan)

-- taken back one after another, ready edits give the plan that they began with
abbrev pub TakenBackAlong : Type 0
TakenBackAlong = (es : List Item) → (plan : Plan) → AllReady plan es → back_along (entries plan es) (made plan es) ≡ plan
