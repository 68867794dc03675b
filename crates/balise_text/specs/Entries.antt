-- The lines of a journal as they are printed, without their ends (this project's text).
use Rattle.balise_rules.specs.declared.tagged_edit.TaggedEdit.TheVariants.{SetVar, SetHead, InsertPacket, DeletePacket, MovePacket, AddGroup, DropGroup, Renumber, TurnGroup}
use Rattle.std.specs.Prelude.{ℕ, List, [], ◌∷◌, ◌++◌, codes, decimal, map}
use Rattle.balise_rules.specs.Variables.{name_of}
use Rattle.balise_rules.specs.Digits.{hex_of}
use Rattle.balise_rules.specs.Journal.{Line, LineEdit, Noted, Nothing, Value, Number, BeforePacket, BeforeGroup}
use Rattle.balise_text.specs.Texts.{Text, line_of}
use Rattle.balise_text.specs.Places.{tag_text, anchor_text, neighbour_text, telegram_path, packet_path}

-- the words of an edit
abbrev pub edit_words : LineEdit → List Text
edit_words (SetVar g t p v k n) = codes "set" ∷ packet_path g t p ∷ name_of v ∷ decimal k ∷ decimal n ∷ []
edit_words (SetHead g t v n) = codes "seth" ∷ telegram_path g t ∷ name_of v ∷ decimal n ∷ []
edit_words (InsertPacket g t a b) = codes "insert" ∷ telegram_path g t ∷ anchor_text a ∷ hex_of b ∷ []
edit_words (DeletePacket g t p) = codes "delete" ∷ packet_path g t p ∷ []
edit_words (MovePacket g t p a) = codes "move" ∷ packet_path g t p ∷ anchor_text a ∷ []
edit_words (AddGroup a bs) = codes "add" ∷ anchor_text a ∷ map hex_of bs
edit_words (DropGroup g) = codes "drop" ∷ tag_text g ∷ []
edit_words (Renumber g n) = codes "renumber" ∷ tag_text g ∷ decimal n ∷ []
edit_words (TurnGroup g) = codes "turn" ∷ tag_text g ∷ []

-- the word of what is noted
abbrev pub noted_words : Noted → List Text
noted_words Nothing = []
noted_words (Value n) = decimal n ∷ []
noted_words (Number n) = decimal n ∷ []
noted_words (BeforePacket b) = neighbour_text b ∷ []
noted_words (BeforeGroup b) = neighbour_text b ∷ []

-- the serial, the edit, and what is noted
abbrev pub entry_text : Line → Text
entry_text l = line_of (decimal l.serial ∷ (edit_words l.edit ++ noted_words l.noted))

-- the first line: version 2, and the next serial
abbrev pub head_text : ℕ → Text
head_text next = line_of (codes "journal" ∷ codes "2" ∷ decimal next ∷ [])

-- a serial of the stack
abbrev pub undone_text : ℕ → Text
undone_text s = line_of (codes "undone" ∷ decimal s ∷ [])
