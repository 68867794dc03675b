-- What a line of fields is, by its words.
use Rattle.std.specs.Prelude.{ℕ, ◌==◌, Bool, List, [], ◌∷◌, codes, bytes_eq, if◌then◌else◌, Option, Some, None}
use Rattle.balise_rules.specs.declared.variable.Var.{Var}
use Rattle.balise_rules.specs.Variables.{var_named}
use Rattle.balise_text.specs.Texts.{Text}
use Rattle.balise_text.specs.Words.{Word, number_of, words_of}
use Rattle.balise_text.specs.DigitWords.{some_word}
use Rattle.balise_fields.specs.DigitLines.{both}
use Rattle.balise_fields.specs.Fours.{bits_in}
use Rattle.balise_fields.specs.declared.field_line.FieldLine.{FieldLine}
use Rattle.balise_fields.specs.declared.field_line.FieldLine.TheVariants.{Plan, Group, Telegram, Alone, Packet, Field, Rest, End, Padding, Other}

-- this line, if no word comes after its name
abbrev pub if_alone : FieldLine → List Word → FieldLine
if_alone l [] = l
if_alone l (w ∷ ws) = Other

-- a telegram has 210 or 830 bits
abbrev pub if_length : Option ℕ → Option ℕ
if_length None = None
if_length (Some n) = if n == 210 then Some 210 else if n == 830 then Some 830 else None

-- BITS
abbrev pub telegram_bits : List Word → Option ℕ
telegram_bits (w ∷ []) = if_length (number_of w)
telegram_bits _ = None

-- a packet of a telegram, or VERSION and a packet by itself
abbrev pub packet_line : List Word → FieldLine
packet_line [] = Packet
packet_line (v ∷ []) = Alone (number_of v)
packet_line _ = Alone None

-- BITS HEX
abbrev pub bits_words : List Word → Option (ℕ × Word)
bits_words (n ∷ digits ∷ []) = both (number_of n) (some_word digits)
bits_words _ = None

abbrev pub bits_line : (Option (List Bool) → FieldLine) → Option (ℕ × Word) → FieldLine
bits_line of None = Other
bits_line of (Some p) = of (bits_in p.0 p.1)

-- `1`
abbrev pub plan_line : List Word → FieldLine
plan_line (w ∷ []) = if bytes_eq w (codes "1") then Plan else Other
plan_line _ = Other

-- NAME and VALUE
abbrev pub value_line : Option Var → Option ℕ → FieldLine
value_line v None = Other
value_line v (Some n) = Field v n

abbrev pub named : Word → Word → FieldLine
named [] value = Other
named (b ∷ bs) value = value_line (var_named (b ∷ bs)) (number_of value)

-- the line, if a word is a number
abbrev pub if_number : Word → FieldLine → FieldLine
if_number w l = at (number_of w)
  where
    at : Option ℕ → FieldLine
    at None = Other
    at (Some n) = l

-- NAME VALUE, NAME K VALUE, or AT WIDTH NAME K VALUE
abbrev pub field_line : Word → List Word → FieldLine
field_line name (value ∷ []) = named name value
field_line name (k ∷ value ∷ []) = if_number k (named name value)
field_line at (width ∷ name ∷ k ∷ value ∷ []) = if_number at (if_number width (if_number k (named name value)))
field_line first _ = Other

-- the line of a name and of words after it
abbrev pub named_line : Word → List Word → FieldLine
named_line name ws =
    if bytes_eq name (codes "rest") then bits_line Rest (bits_words ws)
    else if bytes_eq name (codes "padding") then bits_line Padding (bits_words ws)
    else if bytes_eq name (codes "telegram") then Telegram (telegram_bits ws)
    else if bytes_eq name (codes "packet") then packet_line ws
    else if bytes_eq name (codes "end") then if_alone End ws
    else if bytes_eq name (codes "group") then if_alone Group ws
    else if bytes_eq name (codes "plan") then plan_line ws
    else if bytes_eq name (codes "fault") then Other
    else field_line name ws

abbrev pub line_in : List Word → FieldLine
line_in [] = Other
line_in (name ∷ ws) = named_line name ws

-- what a line of fields is
abbrev pub field_line_of : Text → FieldLine
field_line_of line = line_in (words_of line)
