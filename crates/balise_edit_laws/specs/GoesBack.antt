-- Taking back is never refused: all that taking an edit back asks of the plan that it made holds there.
use Rattle.std.specs.Prelude.{◌≡◌, ◌+◌, ◌≤◌, ℕ, Option, Some, None, false, length}
use Rattle.balise_rules.specs.declared.tag.Tag.{Tag}
use Rattle.balise_rules.specs.declared.tag.Tag.TheVariants.{Fresh}
use Rattle.balise_rules.specs.Tagged.{find, behind, same_spot}
use Rattle.balise_rules.specs.Tags.{same_tag}
use Rattle.balise_rules.specs.Packet.{Packet, width, IsSpelt}
use Rattle.balise_rules.specs.Telegram.{Telegram, used, version_of}
use Rattle.balise_rules.specs.Plan.{Group, Plan, identity_of, telegram_at, IsSoundGroup}
use Rattle.balise_rules.specs.Edits.{Item}
use Rattle.balise_rules.specs.declared.tagged_edit.TaggedEdit.TheVariants.{SetVar, SetHead, InsertPacket, DeletePacket, MovePacket, AddGroup, DropGroup, Renumber, TurnGroup}
use Rattle.balise_rules.specs.Notes.{Note, noted}
use Rattle.balise_rules.specs.Doing.{done}
use Rattle.balise_rules.specs.Accepting.{Accepted, NoGroup, Stands}
use Rattle.balise_edit_laws.specs.TakenBack.{IsReady}

-- A packet stands in the telegram no more, its old next neighbour does, and there is room for it.
pub record HasGap (g : Tag) (t : ℕ) (p : Tag) (x : Packet) (before : Option Tag) (plan : Plan) : Type 0 where
  pub telegram : Telegram
  pub stands : telegram_at g t plan ≡ Some telegram
  pub gone : find same_tag p telegram.packets ≡ None
  pub neighbour : Stands before telegram.packets
  pub room : used telegram.packets + width x ≤ length telegram.padding
  pub spelt : IsSpelt (version_of telegram) x

-- A packet stands in the telegram, and so does its old next neighbour, but not directly after it.
pub record IsAstray (g : Tag) (t : ℕ) (p : Tag) (before : Option Tag) (plan : Plan) : Type 0 where
  pub telegram : Telegram
  pub stands : telegram_at g t plan ≡ Some telegram
  pub packet : Stands (Some p) telegram.packets
  pub neighbour : Stands before telegram.packets
  pub other : same_spot same_tag before (Some p) ≡ false
  pub apart : same_spot same_tag (behind same_tag p telegram.packets) before ≡ false

-- A group stands in the plan no more, its old next neighbour does, and no group has its identity.
pub record LacksGroup (g : Tag) (ys : Group) (before : Option Tag) (plan : Plan) : Type 0 where
  pub gone : find same_tag g plan ≡ None
  pub neighbour : Stands before plan
  pub free : NoGroup (identity_of ys) plan
  pub sound : IsSoundGroup ys

-- what taking back asks, by what was noted
abbrev pub AsksBack : Item → Note → Plan → Type 0
AsksBack (s, SetVar g t p v k n) note plan = Accepted (SetVar g t p v k note.old) plan
AsksBack (s, SetHead g t v n) note plan = Accepted (SetHead g t v note.old) plan
AsksBack (s, InsertPacket g t a x) note plan = Accepted (DeletePacket g t (Fresh s)) plan
AsksBack (s, DeletePacket g t p) note plan = (x : Packet) × (note.packet ≡ Some x) × HasGap g t p x note.before plan
AsksBack (s, MovePacket g t p a) note plan = IsAstray g t p note.before plan
AsksBack (s, AddGroup a bs) note plan = Accepted (DropGroup (Fresh s)) plan
AsksBack (s, DropGroup g) note plan = (ys : Group) × (note.group ≡ Some ys) × LacksGroup g ys note.before plan
AsksBack (s, Renumber g n) note plan = Accepted (Renumber g note.old) plan
AsksBack (s, TurnGroup g) note plan = Accepted (TurnGroup g) plan

-- for every edit
abbrev pub GoesBack : Type 0
GoesBack = (e : Item) → (plan : Plan) → IsReady e plan → AsksBack e (noted e.1 plan) (done e plan)
