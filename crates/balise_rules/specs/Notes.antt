-- What an edit notes of the plan before it is done, so that it can be taken back and compared with others.
use Rattle.std.specs.Prelude.{ℕ, cond, List, [], ◌∷◌, filter, Option, Some, None}
use Rattle.balise_rules.specs.declared.variable.Var.{Var}
use Rattle.balise_rules.specs.declared.variable.Var.TheVariants.{NidBg, QLinkorientation}
use Rattle.balise_rules.specs.declared.identity.Id.{Id}
use Rattle.balise_rules.specs.declared.tag.Tag.{Tag}
use Rattle.balise_rules.specs.Tagged.{find, behind}
use Rattle.balise_rules.specs.Tags.{same_tag, same_var}
use Rattle.balise_rules.specs.Forms.{Fields}
use Rattle.balise_rules.specs.Packet.{Packet, value}
use Rattle.balise_rules.specs.Telegram.{Telegram}
use Rattle.balise_rules.specs.Plan.{Group, Plan, identity_of, country_of, telegram_at}
use Rattle.balise_rules.specs.Names.{country_at, is_real, names_of, names_in}
use Rattle.balise_rules.specs.Edits.{Edit, group_of}
use Rattle.balise_rules.specs.declared.tagged_edit.TaggedEdit.TheVariants.{SetVar, SetHead, InsertPacket, DeletePacket, MovePacket, AddGroup, DropGroup, Renumber, TurnGroup}

-- The old value or number, the old next neighbour (none: the end), the identity of the group, the identities that are named, and what was taken out.
pub record Note : Type 0 where
  pub old : ℕ
  pub before : Option Tag
  pub own : Id
  pub names : List Id
  pub packet : Option Packet
  pub group : Option Group

abbrev pub no_identity : Id
no_identity = record { country = 0; number = 0 }

abbrev pub nothing : Note
nothing = record { old = 0; before = None; own = no_identity; names = []; packet = None; group = None }

-- the identities that a setting of element k in country c to the number n has to do with: the old and the new one, or of an orientation the link's own
abbrev pub names_set : Var → ℕ → ℕ → ℕ → Fields → List Id
names_set v k n c fs =
    cond (same_var NidBg v) (filter is_real ((record { country = country_at c k fs; number = value v k fs }) ∷ (record { country = country_at c k fs; number = n }) ∷ []))
    (cond (same_var QLinkorientation v) (filter is_real ((record { country = country_at c k fs; number = value NidBg k fs }) ∷ [])) [])

abbrev pub set_note : Var → ℕ → ℕ → ℕ → Option Packet → Note
set_note v k n c None = nothing
set_note v k n c (Some x) = record nothing { old = value v k x.fields; names = names_set v k n c x.fields }

abbrev pub names_taken : ℕ → Option Packet → List Id
names_taken c None = []
names_taken c (Some x) = names_of c x

-- what an edit of one telegram notes on it
abbrev pub note_in : Edit → Telegram → Note
note_in (SetVar g t p v k n) y = set_note v k n (country_of y) (find same_tag p y.packets)
note_in (SetHead g t v n) y = record nothing { old = value v 0 y.head }
note_in (InsertPacket g t a x) y = record nothing { names = names_of (country_of y) x }
note_in (DeletePacket g t p) y = record nothing { before = behind same_tag p y.packets; names = names_taken (country_of y) (find same_tag p y.packets); packet = find same_tag p y.packets }
note_in (MovePacket g t p a) y = record nothing { before = behind same_tag p y.packets }
note_in e y = nothing

abbrev pub note_at : Edit → Option Telegram → Note
note_at e None = nothing
note_at e (Some y) = note_in e y

abbrev pub note_group : Option Group → Note
note_group None = nothing
note_group (Some ys) = record nothing { old = (identity_of ys).number; own = identity_of ys }

abbrev pub note_drop : Option Tag → Option Group → Note
note_drop b None = nothing
note_drop b (Some ys) = record nothing { before = b; own = identity_of ys; names = names_in ys; group = Some ys }

-- what an edit notes on the plan before it
abbrev pub noted : Edit → Plan → Note
noted (Renumber g n) plan = note_group (find same_tag g plan)
noted (TurnGroup g) plan = note_group (find same_tag g plan)
noted (DropGroup g) plan = note_drop (behind same_tag g plan) (find same_tag g plan)
noted (AddGroup a bs) plan = record nothing { own = identity_of (group_of bs); names = names_in (group_of bs) }
noted (SetVar g t p v k n) plan = note_at (SetVar g t p v k n) (telegram_at g t plan)
noted (SetHead g t v n) plan = note_at (SetHead g t v n) (telegram_at g t plan)
noted (InsertPacket g t a x) plan = note_at (InsertPacket g t a x) (telegram_at g t plan)
noted (DeletePacket g t p) plan = note_at (DeletePacket g t p) (telegram_at g t plan)
noted (MovePacket g t p a) plan = note_at (MovePacket g t p a) (telegram_at g t plan)

-- A note without the content that was taken out: what is kept of it when the edit is taken back, since the content stands in the plan again.
abbrev pub without_content : Note → Note
without_content m = record m { packet = None; group = None }
