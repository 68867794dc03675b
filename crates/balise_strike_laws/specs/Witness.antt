-- A plan and three edits that fulfil the premises of the laws: edits that are apart, a pair that isn't, and an edit
-- that stands after another.
use Rattle.std.specs.Prelude.{◌≡◌, false, List, [], ◌∷◌, codes, Some, None, Ok}
use Rattle.balise_rules.specs.declared.variable.Var.TheVariants.{NidTsr}
use Rattle.balise_rules.specs.declared.tag.Tag.TheVariants.{Base, Fresh}
use Rattle.balise_rules.specs.Packet.{Packet}
use Rattle.balise_rules.specs.Plan.{Plan}
use Rattle.balise_rules.specs.Edits.{Item}
use Rattle.balise_rules.specs.declared.tagged_edit.TaggedEdit.TheVariants.{SetVar, InsertPacket}
use Rattle.balise_rules.specs.Notes.{noted}
use Rattle.balise_rules.specs.Doing.{done}
use Rattle.balise_rules.specs.Addresses.{packet_in}
use Rattle.balise_rules.specs.Paths.{apart}
use Rattle.balise_rules.specs.Session.{entries, first_dependent}
use Rattle.balise_rules.specs.Examples.{Text, plan_of, word, revoking}
use Rattle.balise_strike_laws.specs.Striking.{Standing, AllBecome}

-- group 5.100 of one telegram with a packet 66
abbrev pub lines : List (List Text)
lines = (revoking ∷ []) ∷ []

-- NID_TSR of the packet 66 set to 9
abbrev pub set : Item
set = (1, SetVar (Base 0) 0 (Base 0) NidTsr 0 9)

-- a packet put in after it
abbrev pub insert : Packet → Item
insert x = (2, InsertPacket (Base 0) 0 (Some (Base 0)) x)

-- another put in after that one
abbrev pub insert_behind : Packet → Item
insert_behind x = (3, InsertPacket (Base 0) 0 (Some (Fresh 2)) x)

-- The three stand on the plan; both insertions are independent of the setting; the second isn't apart from the first, but stands after it, and becomes an insertion after the packet 66.
pub record IsExample (plan : Plan) (x : Packet) : Type 0 where
  pub standing : Standing plan (set ∷ insert x ∷ insert_behind x ∷ [])
  pub outlived : first_dependent (set, noted set.1 plan) (entries (done set plan) (insert x ∷ insert_behind x ∷ [])) ≡ None
  pub dependent : apart (insert x, noted (insert x).1 (done set plan)) (insert_behind x, noted (insert_behind x).1 (done (insert x) (done set plan))) ≡ false
  pub behind : AllBecome (insert x, noted (insert x).1 (done set plan)) (entries (done (insert x) (done set plan)) (insert_behind x ∷ [])) ((3, InsertPacket (Base 0) 0 (Some (Base 0)) x) ∷ [])

-- there is such a plan, read from its digits, and such a packet, a revocation of restriction 5
pub record HasExample : Type 0 where
  pub plan : Plan
  pub is_plan : plan_of lines ≡ Ok plan
  pub packet : Packet
  pub is_packet : packet_in 33 (word (codes "42403e0a")) ≡ Ok packet
  pub example : IsExample plan packet
