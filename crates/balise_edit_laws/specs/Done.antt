-- Doing: what an edit makes is answered exactly where it is accepted, alone and along a list.
use Rattle.std.specs.Prelude.{◌≡◌, List, Ok}
use Rattle.balise_rules.specs.Plan.{Plan, IsSound}
use Rattle.balise_rules.specs.Edits.{Item}
use Rattle.balise_rules.specs.Doing.{done, do_edit}
use Rattle.balise_rules.specs.Accepting.{Accepted}
use Rattle.balise_rules.specs.Session.{made, do_all}
use Rattle.balise_edit_laws.specs.Along.{AllReady}

-- an accepted edit gives what it makes, and what is given is what an accepted edit makes
abbrev pub DoneExactly : Type 0
DoneExactly = (e : Item) → (plan : Plan) → IsSound plan → (Accepted e.1 plan → do_edit e plan ≡ Ok (done e plan)) × ((p : Plan) → do_edit e plan ≡ Ok p → Accepted e.1 plan × (p ≡ done e plan))

-- ready edits done one after another give what they make
abbrev pub DoneAlong : Type 0
DoneAlong = (es : List Item) → (plan : Plan) → AllReady plan es → do_all es plan ≡ Ok (made plan es)
