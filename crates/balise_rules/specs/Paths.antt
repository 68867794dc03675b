-- Places, what an edit changes and needs, and when two edits are apart (this project's own).
use Rattle.std.specs.Prelude.{ℕ, Bool, true, false, cond, ◌&&◌, ◌||◌, not, eqb, List, [], ◌∷◌, ◌++◌, map, Option, Some, None}
use Rattle.balise_rules.specs.declared.variable.Var.{Var}
use Rattle.balise_rules.specs.declared.variable.Var.TheVariants.{NidBg, QLinkorientation, QDir, MDup}
use Rattle.balise_rules.specs.declared.identity.Id.{Id}
use Rattle.balise_rules.specs.declared.tag.Tag.{Tag}
use Rattle.balise_rules.specs.declared.tag.Tag.TheVariants.{Fresh}
use Rattle.balise_rules.specs.Tags.{same_tag, same_var, same_id}
use Rattle.balise_rules.specs.Edits.{Edit, Item}
use Rattle.balise_rules.specs.declared.tagged_edit.TaggedEdit.TheVariants.{SetVar, SetHead, InsertPacket, DeletePacket, MovePacket, AddGroup, DropGroup, Renumber, TurnGroup}
use Rattle.balise_rules.specs.Notes.{Note}

-- a part of a place: a group's or packet's tag; a telegram's, or an occurrence; a variable; the start and the end of a list; the sides after and in front; a group's orientation and number; a header; an identity
pub data Part : Type 0 where
  At : Tag → Part
  Nth : ℕ → Part
  Of : Var → Part
  Start : Part
  End : Part
  After : Part
  Front : Part
  Turn : Part
  Name : Part
  Head : Part
  Whose : Id → Part

abbrev pub same_part : Part → Part → Bool
same_part (At a) (At b) = same_tag a b
same_part (Nth m) (Nth n) = eqb m n
same_part (Of v) (Of w) = same_var v w
same_part (Whose i) (Whose j) = same_id i j
same_part Start Start = true
same_part End End = true
same_part After After = true
same_part Front Front = true
same_part Turn Turn = true
same_part Name Name = true
same_part Head Head = true
same_part a b = false

-- a place
abbrev pub Path : Type 0
Path = List Part

-- one is a prefix of the other
abbrev pub meet : Path → Path → Bool
meet [] q = true
meet (a ∷ p) [] = true
meet (a ∷ p) (b ∷ q) = same_part a b && meet p q

abbrev pub meets_any : Path → List Path → Bool
meets_any p [] = false
meets_any p (q ∷ qs) = meet p q || meets_any p qs

abbrev pub any_meets : List Path → List Path → Bool
any_meets [] qs = false
any_meets (p ∷ ps) qs = meets_any p qs || any_meets ps qs

abbrev pub anchor : Option Tag → Part
anchor None = Start
anchor (Some a) = At a

abbrev pub neighbour : Option Tag → Part
neighbour None = End
neighbour (Some b) = At b

abbrev pub ids : List Id → List Path
ids is = map (λ i. Whose i ∷ []) is

-- an edit with its serial, and what it noted
abbrev pub Entry : Type 0
Entry = Item × Note

-- the places that an entry changes
abbrev pub changes : Entry → List Path
changes ((s, SetVar g t p v k n), m) = (At g ∷ Nth t ∷ At p ∷ Of v ∷ Nth k ∷ []) ∷ []
changes ((s, SetHead g t v n), m) = (At g ∷ Nth t ∷ Head ∷ Of v ∷ []) ∷ []
changes ((s, InsertPacket g t a x), m) = (At g ∷ Nth t ∷ At (Fresh s) ∷ []) ∷ (At g ∷ Nth t ∷ anchor a ∷ After ∷ []) ∷ []
changes ((s, DeletePacket g t p), m) = (At g ∷ Nth t ∷ At p ∷ []) ∷ (At g ∷ Nth t ∷ neighbour m.before ∷ Front ∷ []) ∷ []
changes ((s, MovePacket g t p a), m) = (At g ∷ Nth t ∷ At p ∷ Front ∷ []) ∷ (At g ∷ Nth t ∷ At p ∷ After ∷ []) ∷ (At g ∷ Nth t ∷ neighbour m.before ∷ Front ∷ []) ∷ (At g ∷ Nth t ∷ anchor a ∷ After ∷ []) ∷ []
changes ((s, AddGroup a bs), m) = (At (Fresh s) ∷ []) ∷ (anchor a ∷ After ∷ []) ∷ ids (m.own ∷ [])
changes ((s, DropGroup g), m) = (At g ∷ []) ∷ (neighbour m.before ∷ Front ∷ []) ∷ ids (m.own ∷ [])
changes ((s, Renumber g n), m) = (At g ∷ Name ∷ []) ∷ ids (m.own ∷ (record { country = m.own.country; number = n }) ∷ [])
changes ((s, TurnGroup g), m) = (At g ∷ Turn ∷ []) ∷ ids (m.own ∷ [])

-- the places that it needs as they are, beside those that it changes
abbrev pub needs : Entry → List Path
needs ((s, SetVar g t p v k n), m) =
    cond (same_var QDir v) ((At g ∷ Turn ∷ []) ∷ [])
    (cond (same_var QLinkorientation v) ((At g ∷ Nth t ∷ At p ∷ Of NidBg ∷ Nth k ∷ []) ∷ ids m.names)
    (cond (same_var NidBg v) (ids m.names) []))
needs ((s, SetHead g t v n), m) = cond (same_var MDup v) ((At g ∷ Turn ∷ []) ∷ []) []
needs ((s, InsertPacket g t a x), m) = (At g ∷ Turn ∷ []) ∷ ids m.names
needs ((s, DeletePacket g t p), m) = (At g ∷ Turn ∷ []) ∷ ids m.names
needs ((s, MovePacket g t p a), m) = []
needs ((s, AddGroup a bs), m) = ids m.names
needs ((s, DropGroup g), m) = ids m.names
needs ((s, Renumber g n), m) = []
needs ((s, TurnGroup g), m) = []

-- If one inserts into a telegram, the other deletes nothing from it: an insertion into room that a deletion made would
-- not fit without it.
abbrev pub room_apart : Edit → Edit → Bool
room_apart (InsertPacket g t a x) (DeletePacket g1 t1 p) = not (same_tag g g1 && eqb t t1)
room_apart (DeletePacket g1 t1 p) (InsertPacket g t a x) = not (same_tag g g1 && eqb t t1)
room_apart e f = true

-- no place that one changes meets a place that the other changes or needs, and neither inserts where the other deletes
abbrev pub apart : Entry → Entry → Bool
apart e f = not (any_meets (changes e) (changes f ++ needs f)) && (not (any_meets (needs e) (changes f)) && room_apart e.0.1 f.0.1)
