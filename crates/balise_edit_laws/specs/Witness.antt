-- A plan and edits that fulfil the premises of the laws, and an edit that is refused.
use Rattle.std.specs.Prelude.{◌≡◌, List, [], ◌∷◌, codes, Some, Ok}
use Rattle.balise_rules.specs.declared.variable.Var.TheVariants.{DLink}
use Rattle.balise_rules.specs.declared.refusal.Refusal.TheVariants.{NumberTaken}
use Rattle.balise_rules.specs.declared.tag.Tag.TheVariants.{Base}
use Rattle.balise_rules.specs.Packet.{Packet}
use Rattle.balise_rules.specs.Plan.{Plan}
use Rattle.balise_rules.specs.declared.tagged_edit.TaggedEdit.TheVariants.{SetVar, InsertPacket, Renumber, TurnGroup}
use Rattle.balise_rules.specs.Doing.{refusal}
use Rattle.balise_rules.specs.Addresses.{packet_in}
use Rattle.balise_rules.specs.Examples.{Text, plan_of, word, linking_100, three}
use Rattle.balise_edit_laws.specs.TakenBack.{IsReady}

-- group 5.100 of three telegrams, and group 5.101 with a link that names it
abbrev pub lines : List (List Text)
lines = three ∷ (linking_100 ∷ []) ∷ []

-- on this plan a setting, an insertion of this packet, a renumbering and a turn are ready, and a renumbering to a number that stands is refused
pub record IsWorked (plan : Plan) (x : Packet) : Type 0 where
  pub set : IsReady (1, SetVar (Base 1) 0 (Base 0) DLink 0 7) plan
  pub insert : IsReady (1, InsertPacket (Base 0) 1 (Some (Base 0)) x) plan
  pub renumber : IsReady (1, Renumber (Base 0) 200) plan
  pub turn : IsReady (1, TurnGroup (Base 0)) plan
  pub refused : refusal (Renumber (Base 0) 101) plan ≡ Some NumberTaken

-- there is such a plan, read from its digits, and such a packet, a revocation of restriction 5
pub record Witnessed : Type 0 where
  pub plan : Plan
  pub is_plan : plan_of lines ≡ Ok plan
  pub packet : Packet
  pub is_packet : packet_in 33 (word (codes "42403e0a")) ≡ Ok packet
  pub worked : IsWorked plan packet
