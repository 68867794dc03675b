-- What one line of an input of items prints, and the item that is open after it.
use Rattle.std.specs.Prelude.{ℕ, ◌+◌, ◌||◌, Bool, true, false, List, [], ◌∷◌, ◌++◌, length, codes, Option, Some, None, if◌then◌else◌}
use Rattle.balise_lines.specs.Lines.{Line}
use Rattle.balise_text.specs.Texts.{Text}
use Rattle.balise_fields.specs.declared.field_line.FieldLine.{FieldLine}
use Rattle.balise_fields.specs.declared.field_line.FieldLine.TheVariants as line
use Rattle.balise_fields.specs.FieldLines.{field_line_of}
use Rattle.balise_items.specs.Begins.{begins_item}
use Rattle.balise_items.specs.Items.{GivenItem, begun, with_line}
use Rattle.balise_items.specs.Spellings.{is_bad, spelling_of, spelling_text}

-- what is printed for an item, if one is open, whose lines end before the line of this number
abbrev pub closed_text : ℕ → Option GivenItem → Text
closed_text n None = []
closed_text n (Some i) = spelling_text (spelling_of n i)

-- whether it is refused
abbrev pub closed_bad : ℕ → Option GivenItem → Bool
closed_bad n None = false
closed_bad n (Some i) = is_bad (spelling_of n i)

-- a line of a plan
abbrev pub is_plan : FieldLine → Bool
is_plan line.Plan = true
is_plan line.Group = true
is_plan _ = false

-- it is printed as it is
abbrev pub plan_text : FieldLine → Text
plan_text line.Plan = codes "plan 1\n"
plan_text line.Group = codes "group\n"
plan_text _ = []

-- whether a line, which says this, ends the item before it
abbrev pub ends_item : Text → FieldLine → Bool
ends_item text l = is_plan l || begins_item text l

-- the item that a line of this number begins, or is one more of
abbrev pub grown : ℕ → FieldLine → Option GivenItem → GivenItem
grown n l None = begun n l
grown n l (Some i) = with_line n l i

-- the item that is open after a line that ends another; after a line of a plan none is
abbrev pub begun_after : ℕ → FieldLine → Option GivenItem
begun_after n l = if is_plan l then None else Some (begun n l)

-- what is printed once the line of this number has come, where an item is open before it
abbrev pub line_text : ℕ → Text → Option GivenItem → Text
line_text n text current = if ends_item text (field_line_of text) then closed_text n current ++ plan_text (field_line_of text) else []

-- whether an item is refused there
abbrev pub line_bad : ℕ → Text → Option GivenItem → Bool
line_bad n text current = if ends_item text (field_line_of text) then closed_bad n current else false

-- the item that is open after it
abbrev pub open_after : ℕ → Text → Option GivenItem → Option GivenItem
open_after n text current =
    if ends_item text (field_line_of text) then begun_after n (field_line_of text) else Some (grown n (field_line_of text) current)

-- ---- lines one after another, numbered from this number on

abbrev pub lines_text : ℕ → Option GivenItem → List Line → Text
lines_text n current [] = []
lines_text n current (l ∷ ls) = line_text n l.bytes current ++ lines_text (n + 1) (open_after n l.bytes current) ls

abbrev pub lines_bad : ℕ → Option GivenItem → List Line → Bool
lines_bad n current [] = false
lines_bad n current (l ∷ ls) = line_bad n l.bytes current || lines_bad (n + 1) (open_after n l.bytes current) ls

abbrev pub open_at_end : ℕ → Option GivenItem → List Line → Option GivenItem
open_at_end n current [] = current
open_at_end n current (l ∷ ls) = open_at_end (n + 1) (open_after n l.bytes current) ls

-- the item that is open after the first lines of an input, and the number of the line after them
abbrev pub open_of : List Line → Option GivenItem
open_of ls = open_at_end 1 None ls

abbrev pub next_of : List Line → ℕ
next_of ls = length ls + 1
