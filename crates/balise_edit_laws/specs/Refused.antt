-- Refusing: an edit is refused by a number exactly where it isn't accepted, and so for the tests that refusals are made of.
use Rattle.std.specs.Prelude.{◌≡◌, ◌↔◌, false, None}
use Rattle.balise_rules.specs.declared.identity.Id.{Id}
use Rattle.balise_rules.specs.Plan.{Plan, IsSound, group_named}
use Rattle.balise_rules.specs.Names.{is_named}
use Rattle.balise_rules.specs.Doing.{refusal}
use Rattle.balise_rules.specs.Accepting.{Accepted, NoName, NoGroup}
use Rattle.balise_rules.specs.Edits.{Edit}

-- no refusal is found exactly where the edit is accepted
abbrev pub Refused : Type 0
Refused = (e : Edit) → (plan : Plan) → IsSound plan → ((refusal e plan ≡ None) ↔ Accepted e plan)

-- the test finds no name exactly where no element has the identity, also for the number that names nothing
abbrev pub NameTold : Type 0
NameTold = (i : Id) → (plan : Plan) → IsSound plan → ((is_named i plan ≡ false) ↔ NoName i plan)

-- the search finds no group exactly where none has the identity
abbrev pub GroupTold : Type 0
GroupTold = (i : Id) → (plan : Plan) → IsSound plan → ((group_named i plan ≡ None) ↔ NoGroup i plan)
