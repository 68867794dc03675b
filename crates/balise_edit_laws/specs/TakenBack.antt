-- Taking back: an accepted edit, taken back by what it noted, leaves the plan itself, tags and padding included.
use Rattle.std.specs.Prelude.{◌≡◌}
use Rattle.balise_rules.specs.Plan.{Plan, IsSound}
use Rattle.balise_rules.specs.Edits.{Item}
use Rattle.balise_rules.specs.Notes.{noted}
use Rattle.balise_rules.specs.Doing.{done}
use Rattle.balise_rules.specs.Accepting.{Accepted, Unused, Spelt}
use Rattle.balise_rules.specs.Back.{back}

-- what is asked of a plan and an edit with its serial: the plan is sound, the serial is new, a packet to be inserted is spelt, and the edit is accepted
pub record IsReady (e : Item) (plan : Plan) : Type 0 where
  pub sound : IsSound plan
  pub unused : Unused e.0 plan
  pub spelt : Spelt e.1 plan
  pub accepted : Accepted e.1 plan

-- the edit taken back gives the plan, and done again what it gave
abbrev pub Returns : Item → Plan → Type 0
Returns e plan = (back e (noted e.1 plan) (done e plan) ≡ plan) × (done e (back e (noted e.1 plan) (done e plan)) ≡ done e plan)

-- for every edit
abbrev pub TakenBack : Type 0
TakenBack = (e : Item) → (plan : Plan) → IsReady e plan → Returns e plan
