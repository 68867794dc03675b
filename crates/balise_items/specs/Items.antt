-- What the lines of an item give.
use Rattle.std.specs.Prelude.{ℕ, Bool, List, [], ◌∷◌, ◌++◌, Option, Some, None}
use Rattle.balise_fields.specs.declared.field_line.FieldLine.{FieldLine}
use Rattle.balise_fields.specs.declared.field_line.FieldLine.TheVariants as line
use Rattle.balise_items.specs.declared.place.Place.{Place}
use Rattle.balise_items.specs.declared.place.Place.TheVariants.{Bad}
use Rattle.balise_items.specs.Places.{after, begins_at}
use Rattle.balise_items.specs.Sections.{Given, begun_at, with_rest, with_value}

-- What the lines of an item give, as far as they have come: to where; BITS of a telegram or VERSION of a packet by itself;
-- the header and the packets before the last; that one; the bits after packet 255; and the first lines whose digits aren't
-- those of their BITS, and whose name no variable has.
pub record GivenItem : Type 0 where
  pub place : Place
  pub number : ℕ
  pub before : List Given
  pub last : Given
  pub padding : List Bool
  pub bad_digits : Option ℕ
  pub unknown : Option ℕ

abbrev pub number_in : FieldLine → ℕ
number_in (line.Telegram (Some bits)) = bits
number_in (line.Alone (Some version)) = version
number_in _ = 0

-- the item that begins at a line, which has this number
abbrev pub begun : ℕ → FieldLine → GivenItem
begun n l = record { place = begins_at l n; number = number_in l; before = []; last = begun_at n; padding = []; bad_digits = None; unknown = None }

-- the first of the lines that were noted, and this one
abbrev pub noted : Option ℕ → ℕ → Option ℕ
noted None n = Some n
noted (Some m) n = Some m

-- what a line gives that may stand there
abbrev pub with_content : ℕ → FieldLine → GivenItem → GivenItem
with_content n (line.Field (Some v) x) i = record i { last = with_value v x i.last }
with_content n (line.Field None x) i = record i { unknown = noted i.unknown n }
with_content n (line.Rest (Some b)) i = record i { last = with_rest b i.last }
with_content n (line.Rest None) i = record i { bad_digits = noted i.bad_digits n }
with_content n (line.Padding (Some b)) i = record i { padding = b }
with_content n (line.Padding None) i = record i { bad_digits = noted i.bad_digits n }
with_content n line.Packet i = record i { before = i.before ++ i.last ∷ []; last = begun_at n }
with_content n _ i = i

-- the line leads to this place
abbrev pub led : ℕ → FieldLine → GivenItem → Place → GivenItem
led n l i (Bad m) = record i { place = Bad m }
led n l i p = with_content n l (record i { place = p })

-- one line more
abbrev pub with_line : ℕ → FieldLine → GivenItem → GivenItem
with_line n l i = led n l i (after i.place l n)
