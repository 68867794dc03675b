-- A journal's line that fits a plan gives an edit that is ready on it.
use Rattle.std.specs.Prelude.{◌≡◌, ◌<◌, ℕ, Some}
use Rattle.balise_rules.specs.Plan.{Plan, IsSound}
use Rattle.balise_rules.specs.Edits.{Item}
use Rattle.balise_rules.specs.Notes.{noted}
use Rattle.balise_rules.specs.Accepting.{Unused}
use Rattle.balise_rules.specs.Journal.{Line, noted_of}
use Rattle.balise_rules.specs.Opening.{item_of}
use Rattle.balise_edit_laws.specs.TakenBack.{IsReady}

-- The edit is ready, has the line's serial, which lies between, and notes what the line says.
pub record Fitting (last next : ℕ) (l : Line) (e : Item) (plan : Plan) : Type 0 where
  pub ready : IsReady e plan
  pub serial : e.0 ≡ l.serial
  pub above : last < e.0
  pub below : e.0 < next
  pub note : noted_of e.1 (noted e.1 plan) ≡ l.noted

abbrev pub LinesReady : Type 0
LinesReady = (last next : ℕ) → (l : Line) → (e : Item) → (plan : Plan) → IsSound plan → Unused e.0 plan → item_of last next l plan ≡ Some e → Fitting last next l e plan
