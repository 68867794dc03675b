-- Whether a line begins an item.
use Rattle.std.specs.Prelude.{◌&&◌, ◌||◌, Bool, true, false, List, ◌∷◌, codes, bytes_eq}
use Rattle.balise_text.specs.Texts.{Text}
use Rattle.balise_text.specs.Words.{Word, words_of}
use Rattle.balise_fields.specs.declared.field_line.FieldLine.{FieldLine}
use Rattle.balise_fields.specs.declared.field_line.FieldLine.TheVariants as line

-- the number of a fault that stands alone for digits as a whole
abbrev pub is_whole_number : Word → Bool
is_whole_number w = bytes_eq w (codes "2") || bytes_eq w (codes "3") || bytes_eq w (codes "4")

abbrev pub are_whole_fault : List Word → Bool
are_whole_fault (name ∷ number ∷ ws) = bytes_eq name (codes "fault") && is_whole_number number
are_whole_fault _ = false

-- a line whose first two words are `fault 2`, `fault 3` or `fault 4`
abbrev pub is_whole_fault : Text → Bool
is_whole_fault text = are_whole_fault (words_of text)

-- whether a line, which says this, begins an item, also where it is refused
abbrev pub begins_item : Text → FieldLine → Bool
begins_item text (line.Telegram bits) = true
begins_item text (line.Alone version) = true
begins_item text line.Other = is_whole_fault text
begins_item text _ = false
