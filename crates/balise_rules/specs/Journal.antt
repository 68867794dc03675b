-- What a journal says: the entries that would stand if all that was undone were done again, and the serials of what was undone (this project's own).
use Rattle.std.specs.Prelude.{ℕ, Bool, false, true, eqb, List, [], ◌∷◌, ◌++◌, map, reverse, Option}
use Rattle.balise_rules.specs.declared.tag.Tag.{Tag}
use Rattle.balise_rules.specs.Tagged.{same_spot}
use Rattle.balise_rules.specs.Tags.{same_tag}
use Rattle.balise_rules.specs.Bits.{zeros}
use Rattle.balise_rules.specs.Digits.{fill}
use Rattle.balise_rules.specs.Packet.{Packet, bits_of, width}
use Rattle.balise_rules.specs.Parts.{with_parts}
use Rattle.balise_rules.specs.Edits.{Edit, Item}
use Rattle.balise_rules.specs.declared.tagged_edit.TaggedEdit.{TaggedEdit}
use Rattle.balise_rules.specs.declared.tagged_edit.TaggedEdit.TheVariants.{SetVar, SetHead, InsertPacket, DeletePacket, MovePacket, AddGroup, DropGroup, Renumber, TurnGroup}
use Rattle.balise_rules.specs.Notes.{Note}
use Rattle.balise_rules.specs.Paths.{Entry}
use Rattle.balise_rules.specs.Session.{State, Removed, entries, put_back}

-- what a line has noted of the plan before its edit: nothing, an old value, an old number, or the old next neighbour of
-- a packet or of a group (none: the end)
pub data Noted : Type 0 where
  Nothing : Noted
  Value : ℕ → Noted
  Number : ℕ → Noted
  BeforePacket : Option Tag → Noted
  BeforeGroup : Option Tag → Noted

-- what the line of an edit has of its note
abbrev pub noted_of : Edit → Note → Noted
noted_of (SetVar g t p v k n) m = Value m.old
noted_of (SetHead g t v n) m = Value m.old
noted_of (InsertPacket g t a x) m = Nothing
noted_of (DeletePacket g t p) m = BeforePacket m.before
noted_of (MovePacket g t p a) m = BeforePacket m.before
noted_of (AddGroup a bs) m = Nothing
noted_of (DropGroup g) m = BeforeGroup m.before
noted_of (Renumber g n) m = Number m.old
noted_of (TurnGroup g) m = Nothing

abbrev pub same_noted : Noted → Noted → Bool
same_noted Nothing Nothing = true
same_noted (Value m) (Value n) = eqb m n
same_noted (Number m) (Number n) = eqb m n
same_noted (BeforePacket a) (BeforePacket b) = same_spot same_tag a b
same_noted (BeforeGroup a) (BeforeGroup b) = same_spot same_tag a b
same_noted a b = false

-- the nine edits as lines have them: an inserted packet is the bits of its digits
abbrev pub LineEdit : Type 0
LineEdit = TaggedEdit (List Bool) (List (List Bool))

pub record Line : Type 0 where
  pub serial : ℕ
  pub edit : LineEdit
  pub noted : Noted

-- the bits of a packet, and zeros up to a whole byte
abbrev pub whole_bytes : Packet → List Bool
whole_bytes x = bits_of x ++ zeros (fill (width x))

abbrev pub line_edit : Edit → LineEdit
line_edit e = with_parts whole_bytes (λ bs. bs) e

-- the line of an entry
abbrev pub line_of : Entry → Line
line_of e = record { serial = e.0.0; edit = line_edit e.0.1; noted = noted_of e.0.1 e.1 }

-- the standing edits with all of the stack put back, its top first
abbrev pub all_back : List Removed → List Item → List Item
all_back [] es = es
all_back (r ∷ rs) es = all_back rs (put_back r es)

-- the lines of those edits, with the anchors and notes that they would have
abbrev pub lines : State → List Line
lines s = map line_of (entries s.base (all_back s.stack s.standing))

-- the serials of the stack, the last one of it first
abbrev pub undone : State → List ℕ
undone s = reverse (map (λ (r : Removed). r.item.0) s.stack)
