-- The notes of this crate as those of the rules, and which edits have which.
use Rattle.std.specs.Prelude.{◌≡◌, ℕ, Bool, true, false, List, [], Option, Some}
use Rattle.balise_rules.specs.declared.identity.Id.{Id}
use Rattle.balise_rules.specs.declared.tag.Tag.{Tag}
use Rattle.balise_rules.specs.Packet.{Packet}
use Rattle.balise_rules.specs.Plan.{Group}
use Rattle.balise_rules.specs.Edits as rules
use Rattle.balise_rules.specs.declared.tagged_edit.TaggedEdit.TheVariants as variants
use Rattle.balise_rules.specs.Notes as notes
use Rattle.balise_rules.specs.Notes.{nothing}
use Rattle.balise_edits.specs.declared.note.Names.{Names}
use Rattle.balise_edits.specs.declared.note.Names.TheVariants.{Neither, One, Both}
use Rattle.balise_edits.specs.declared.note.Note.{Note}
use Rattle.balise_edits.specs.declared.note.Note.TheVariants.{Field, Linked, Relinked, Header, Inserted, InsertedLinks, Deleted, DeletedLinks, Moved, AddedLink, Added, DroppedLink, Dropped, Own}

abbrev pub names_in : Names → List Id
names_in Neither = []
names_in (One is) = is
names_in (Both is) = is

-- whether they are two
abbrev pub are_two : Names → Bool
are_two (Both is) = true
are_two names = false

-- what an edit notes of its group: the identity, and the number as the old one
abbrev pub of_group : Id → notes.Note
of_group i = record nothing { old = i.number; own = i }

-- of a group that goes in or out: the identity, and those that it names
abbrev pub of_named : Id → List Id → notes.Note
of_named i is = record nothing { own = i; names = is }

-- what a note says; what its kind doesn't hold is nothing
abbrev pub note_of : Note → notes.Note
note_of (Field n) = record nothing { old = n }
note_of (Linked n is) = record nothing { old = n; names = is }
note_of (Relinked n is) = record nothing { old = n; names = is.value }
note_of (Header n) = record nothing { old = n }
note_of Inserted = nothing
note_of (InsertedLinks is) = record nothing { names = is.value.items }
note_of (Deleted x) = record nothing { before = x.value.before; packet = x.value.packet }
note_of (DeletedLinks x) = record nothing { before = x.value.before; names = x.value.names.items; packet = x.value.packet }
note_of (Moved b) = record nothing { before = b }
note_of (AddedLink y) = of_named y.value.own y.value.names
note_of (Added y) = of_named y.value.own y.value.names.items
note_of (DroppedLink y) = record nothing { before = y.value.before; own = y.value.own; names = y.value.names; group = y.value.group }
note_of (Dropped y) = record nothing { before = y.value.before; own = y.value.own; names = y.value.names.items; group = y.value.group }
note_of (Own i) = of_group i

-- the kinds of notes
pub data Kind : Type 0 where
  OfField : Kind
  OfHeader : Kind
  OfInsertion : Kind
  OfDeletion : Kind
  OfMove : Kind
  OfAddition : Kind
  OfRemoval : Kind
  OfGroup : Kind

-- the kind of note that an edit has
abbrev pub kind_of : rules.Edit → Kind
kind_of (variants.SetVar g t p v k n) = OfField
kind_of (variants.SetHead g t v n) = OfHeader
kind_of (variants.InsertPacket g t a x) = OfInsertion
kind_of (variants.DeletePacket g t p) = OfDeletion
kind_of (variants.MovePacket g t p a) = OfMove
kind_of (variants.AddGroup a bs) = OfAddition
kind_of (variants.DropGroup g) = OfRemoval
kind_of (variants.Renumber g n) = OfGroup
kind_of (variants.TurnGroup g) = OfGroup

-- the kind of a note
abbrev pub kind_in : Note → Kind
kind_in (Field n) = OfField
kind_in (Linked n is) = OfField
kind_in (Relinked n is) = OfField
kind_in (Header n) = OfHeader
kind_in Inserted = OfInsertion
kind_in (InsertedLinks is) = OfInsertion
kind_in (Deleted x) = OfDeletion
kind_in (DeletedLinks x) = OfDeletion
kind_in (Moved b) = OfMove
kind_in (AddedLink y) = OfAddition
kind_in (Added y) = OfAddition
kind_in (DroppedLink y) = OfRemoval
kind_in (Dropped y) = OfRemoval
kind_in (Own i) = OfGroup

-- the note is of the kind that the edit has
abbrev pub Suits : rules.Edit → Note → Type 0
Suits e m = kind_of e ≡ kind_in m

-- a note with another old value, or other identities
abbrev pub with_old : ℕ → notes.Note → notes.Note
with_old n m = record m { old = n }

abbrev pub with_names : List Id → notes.Note → notes.Note
with_names is m = record m { names = is }

-- a note with another packet, or another group, as what was taken out
abbrev pub with_packet : Option Packet → notes.Note → notes.Note
with_packet x m = record m { packet = x }

abbrev pub with_group : Option Group → notes.Note → notes.Note
with_group ys m = record m { group = ys }

-- a note with what was taken out, and its old next neighbour
abbrev pub with_taken_packet : Packet → Option Tag → notes.Note → notes.Note
with_taken_packet x b m = record m { before = b; packet = Some x }

abbrev pub with_taken_group : Group → Option Tag → notes.Note → notes.Note
with_taken_group ys b m = record m { before = b; group = Some ys }

-- whether an edit takes something out of the plan
abbrev pub takes_out : rules.Edit → Bool
takes_out (variants.DeletePacket g t p) = true
takes_out (variants.DropGroup g) = true
takes_out e = false
