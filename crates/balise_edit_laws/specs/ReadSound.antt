-- Reading: a plan that is read is sound, and no serial tags anything in it.
use Rattle.std.specs.Prelude.{◌≡◌, ℕ, Bool, List, Ok}
use Rattle.balise_rules.specs.Plan.{Plan, IsSound, read_plan}
use Rattle.balise_rules.specs.Accepting.{Unused}

abbrev pub ReadSound : Type 0
ReadSound = (groups : List (List (List Bool))) → (plan : Plan) → read_plan groups ≡ Ok plan → IsSound plan × ((s : ℕ) → Unused s plan)
