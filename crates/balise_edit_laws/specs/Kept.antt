-- Keeping: an accepted edit leaves a sound plan sound, and a serial that tags nothing still tags nothing.
use Rattle.std.specs.Prelude.{◌≢◌, ℕ}
use Rattle.balise_rules.specs.Plan.{Plan, IsSound}
use Rattle.balise_rules.specs.Edits.{Edit, Item}
use Rattle.balise_rules.specs.Doing.{done}
use Rattle.balise_rules.specs.Accepting.{Accepted, Unused, Spelt}
use Rattle.balise_edit_laws.specs.TakenBack.{IsReady}

-- the plan that an accepted edit makes is sound, and a serial other than the edit's own tags nothing in it that it didn't before
abbrev pub Kept : Type 0
Kept = (e : Item) → (plan : Plan) → IsReady e plan → IsSound (done e plan) × ((s : ℕ) → s ≢ e.0 → Unused s plan → Unused s (done e plan))

-- A packet to be inserted that was spelt for its telegram is so after an accepted edit, and was so before one: no edit changes a version.
abbrev pub SpeltKept : Type 0
SpeltKept =
    (e : Item) → (f : Edit) → (plan : Plan) → IsReady e plan →
    (Accepted f plan → Spelt f plan → Spelt f (done e plan)) × (Accepted f (done e plan) → Spelt f (done e plan) → Spelt f plan)
