-- The laws of undo, redo and strike.
use Rattle.std.specs.Prelude.{◌≡◌, true}
use Rattle.balise_rules.specs.Plan.{Plan, IsSound}
use Rattle.balise_rules.specs.Edits.{Item}
use Rattle.balise_rules.specs.Notes.{noted}
use Rattle.balise_rules.specs.Doing.{done}
use Rattle.balise_rules.specs.Accepting.{Accepted, Unused}
use Rattle.balise_rules.specs.Paths.{Entry, apart}
use Rattle.balise_rules.specs.Behind.{stands_behind, re_anchored}

-- In the other order both edits are accepted, note what they noted, and make the same plan.
pub record Commutes (e f : Item) (plan : Plan) : Type 0 where
  pub second_first : Accepted f.1 plan
  pub second_notes : noted f.1 plan ≡ noted f.1 (done e plan)
  pub first_then : Accepted e.1 (done f plan)
  pub first_notes : noted e.1 (done f plan) ≡ noted e.1 plan
  pub same_plan : done f (done e plan) ≡ done e (done f plan)

-- e is accepted on a sound plan, and f on what e makes of it; the serials of both tag nothing in the plan.
pub record InTurn (e f : Item) (plan : Plan) : Type 0 where
  pub sound : IsSound plan
  pub first_unused : Unused e.0 plan
  pub second_unused : Unused f.0 plan
  pub first_accepted : Accepted e.1 plan
  pub second_accepted : Accepted f.1 (done e plan)

-- Edits that are apart commute.
abbrev pub Commuting : Type 0
Commuting = (e f : Item) → (plan : Plan) → InTurn e f plan → apart (e, noted e.1 plan) (f, noted f.1 (done e plan)) ≡ true → Commutes e f plan

-- Whether two entries are apart is the same from both sides.
abbrev pub IsSymmetric : Type 0
IsSymmetric = (e f : Entry) → apart e f ≡ apart f e

-- With the anchor of e, f is accepted before e; both note what they noted, and make the same plan.
pub record CommutesBehind (e f : Item) (plan : Plan) : Type 0 where
  pub second_first : Accepted (re_anchored e f).1 plan
  pub second_notes : noted (re_anchored e f).1 plan ≡ noted f.1 (done e plan)
  pub first_then : Accepted e.1 (done (re_anchored e f) plan)
  pub first_notes : noted e.1 (done (re_anchored e f) plan) ≡ noted e.1 plan
  pub same_plan : done f (done e plan) ≡ done e (done (re_anchored e f) plan)

-- An edit that stands after what another put in commutes with it, on the other's own anchor.
abbrev pub CommutingBehind : Type 0
CommutingBehind = (e f : Item) → (plan : Plan) → InTurn e f plan → stands_behind (e, noted e.1 plan) (f, noted f.1 (done e plan)) ≡ true → CommutesBehind e f plan
