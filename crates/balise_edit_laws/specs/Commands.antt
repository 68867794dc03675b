-- Commands: what a command asks for is ready to be done where it isn't refused.
use Rattle.std.specs.Prelude.{◌≡◌, ℕ, None, Ok}
use Rattle.balise_rules.specs.Plan.{Plan, IsSound}
use Rattle.balise_rules.specs.Edits.{Edit}
use Rattle.balise_rules.specs.Doing.{refusal}
use Rattle.balise_rules.specs.Accepting.{Unused}
use Rattle.balise_rules.specs.Addresses.{Command, edit_of}
use Rattle.balise_edit_laws.specs.TakenBack.{IsReady}

-- on a sound plan, with a serial that tags nothing: the edit is accepted, and a packet to be inserted is spelt in the version of its telegram
abbrev pub CommandsReady : Type 0
CommandsReady = (c : Command) → (s : ℕ) → (e : Edit) → (plan : Plan) → IsSound plan → Unused s plan → edit_of c plan ≡ Ok e → refusal e plan ≡ None → IsReady (s, e) plan
