-- When an edit is accepted, as a fact on the plan; the numbered refusals say the same by tests.
use Rattle.std.specs.Prelude.{◌≡◌, ◌≢◌, ◌≤◌, ◌+◌, ℕ, false, IsTrue, List, length, Option, Some, None, Ok}
use Rattle.balise_rules.specs.declared.variable.Var.TheVariants.{NidBg}
use Rattle.balise_rules.specs.declared.identity.Id.{Id}
use Rattle.balise_rules.specs.declared.tag.Tag.{Tag}
use Rattle.balise_rules.specs.declared.tag.Tag.TheVariants.{Fresh}
use Rattle.balise_rules.specs.Variables.{width_of, steers, is_free_in_header}
use Rattle.balise_rules.specs.Bits.{fits}
use Rattle.balise_rules.specs.Tagged.{find, next, same_spot}
use Rattle.balise_rules.specs.Tags.{same_tag, same_id}
use Rattle.balise_rules.specs.Packet.{Packet, field_of, width, IsSpelt}
use Rattle.balise_rules.specs.Telegram.{Telegram, version_of, used}
use Rattle.balise_rules.specs.Plan.{Group, Plan, reserved, identity_of, telegram_at, read_group}
use Rattle.balise_rules.specs.Names.{Names}
use Rattle.balise_rules.specs.Doing.{renumbered}
use Rattle.balise_rules.specs.Edits.{Edit, group_of}
use Rattle.balise_rules.specs.declared.tagged_edit.TaggedEdit.TheVariants.{SetVar, SetHead, InsertPacket, DeletePacket, MovePacket, AddGroup, DropGroup, Renumber, TurnGroup}

-- an anchor stands: a tag of the list, or the start
abbrev pub Stands : {A : Type 0} → Option Tag → List (Tag × A) → Type 0
Stands None xs = Unit {0}
Stands {A} (Some t) xs = (x : A) × (find same_tag t xs ≡ Some x)

-- no element names the identity
abbrev pub NoName : Id → Plan → Type 0
NoName i plan = (g : Tag) → (t : ℕ) → (p : Tag) → (k : ℕ) → Names i g t p k plan → ⊥

-- no group has the identity
abbrev pub NoGroup : Id → Plan → Type 0
NoGroup i plan = (g : Tag) → (ys : Group) → find same_tag g plan ≡ Some ys → same_id (identity_of ys) i ≡ false

-- what an edit asks whatever the plan: the variable is set in place and the value fits, the number is free to use, the bits are a group's
abbrev pub Lawful : Edit → Type 0
Lawful (SetVar g t p v k n) = (steers v ≡ false) × IsTrue (fits (width_of v) n)
Lawful (SetHead g t v n) = IsTrue (is_free_in_header v) × IsTrue (fits (width_of v) n)
Lawful (Renumber g n) = IsTrue (fits (width_of NidBg) n) × (n ≢ reserved)
Lawful (AddGroup a bs) = read_group bs ≡ Ok (group_of bs)
Lawful e = Unit {0}

-- what an edit of one telegram asks of it
abbrev pub AcceptedIn : Edit → Telegram → Type 0
AcceptedIn (SetVar g t p v k n) y = (x : Packet) × (find same_tag p y.packets ≡ Some x) × ((old : ℕ) × (field_of v k x.fields ≡ Some old))
AcceptedIn (SetHead g t v n) y = (old : ℕ) × (field_of v 0 y.head ≡ Some old)
AcceptedIn (InsertPacket g t a x) y = Stands a y.packets × (used y.packets + width x ≤ length y.padding)
AcceptedIn (DeletePacket g t p) y = Stands (Some p) y.packets
AcceptedIn (MovePacket g t p a) y = Stands (Some p) y.packets × Stands a y.packets × (same_spot same_tag a (Some p) ≡ false) × (same_spot same_tag (next same_tag a y.packets) (Some p) ≡ false)
AcceptedIn e y = Unit {0}

abbrev pub AcceptedAt : Edit → Option Telegram → Type 0
AcceptedAt e None = ⊥
AcceptedAt e (Some y) = AcceptedIn e y

-- what an edit asks of the plan
abbrev pub Asks : Edit → Plan → Type 0
Asks (Renumber g n) plan = (ys : Group) × (find same_tag g plan ≡ Some ys) × NoGroup (renumbered (Some ys) n) plan × NoName (renumbered (Some ys) n) plan
Asks (TurnGroup g) plan = Stands (Some g) plan
Asks (DropGroup g) plan = Stands (Some g) plan
Asks (AddGroup a bs) plan = Stands a plan × NoGroup (identity_of (group_of bs)) plan
Asks (SetVar g t p v k n) plan = AcceptedAt (SetVar g t p v k n) (telegram_at g t plan)
Asks (SetHead g t v n) plan = AcceptedAt (SetHead g t v n) (telegram_at g t plan)
Asks (InsertPacket g t a x) plan = AcceptedAt (InsertPacket g t a x) (telegram_at g t plan)
Asks (DeletePacket g t p) plan = AcceptedAt (DeletePacket g t p) (telegram_at g t plan)
Asks (MovePacket g t p a) plan = AcceptedAt (MovePacket g t p a) (telegram_at g t plan)

abbrev pub Accepted : Edit → Plan → Type 0
Accepted e plan = Lawful e × Asks e plan

-- the serial tags nothing in the plan
pub record Unused (s : ℕ) (plan : Plan) : Type 0 where
  pub groups : find same_tag (Fresh s) plan ≡ None
  pub packets : (g : Tag) → (t : ℕ) → (y : Telegram) → telegram_at g t plan ≡ Some y → find same_tag (Fresh s) y.packets ≡ None

-- a packet to be inserted is spelt in the version of its telegram
abbrev pub Spelt : Edit → Plan → Type 0
Spelt (InsertPacket g t a x) plan = (y : Telegram) → telegram_at g t plan ≡ Some y → IsSpelt (version_of y) x
Spelt e plan = Unit {0}
