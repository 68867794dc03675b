-- What an item is turned into.
use Rattle.std.specs.Prelude.{ℕ, Bool, true, false, List, [], ◌∷◌, codes, decimal, Option, Some, None, Result, Ok, Err, if◌then◌else◌}
use Rattle.balise_rules.specs.Digits.{hex_of}
use Rattle.balise_text.specs.Texts.{Text, whole_line}
use Rattle.balise_items.specs.declared.place.Place.{Place}
use Rattle.balise_items.specs.declared.place.Place.TheVariants as place
use Rattle.balise_items.specs.declared.reason.Bad.{Bad}
use Rattle.balise_items.specs.declared.reason.Reason.TheVariants.{BadLine, BadHex, UnknownName}
use Rattle.balise_items.specs.declared.spelling.Spelling.{Spelling}
use Rattle.balise_items.specs.declared.spelling.Spelling.TheVariants as spelling
use Rattle.balise_items.specs.Items.{GivenItem}
use Rattle.balise_items.specs.Packets.{packet_of}
use Rattle.balise_items.specs.Reasons.{bad, bad_text}
use Rattle.balise_items.specs.Telegrams.{telegram_of}

-- a line whose digits aren't those of its BITS, and then one with a name that no variable has
abbrev pub bad_words : Option ℕ → Option ℕ → Option Bad
bad_words (Some n) unknown = Some (bad n BadHex)
bad_words None (Some n) = Some (bad n UnknownName)
bad_words None None = None

-- a line that may not stand where it does, and then these
abbrev pub bad_line : Place → Option ℕ → Option ℕ → Option Bad
bad_line (place.Bad n) digits unknown = Some (bad n BadLine)
bad_line _ digits unknown = bad_words digits unknown

-- the line that makes an item bad by its words
abbrev pub first_bad : GivenItem → Option Bad
first_bad i = bad_line i.place i.bad_digits i.unknown

-- whether it is a packet by itself
abbrev pub is_alone : Place → Bool
is_alone place.Alone = true
is_alone place.AloneRest = true
is_alone _ = false

abbrev pub spelling_by : (List Bool → Spelling) → Result (List Bool) Bad → Spelling
spelling_by of (Ok b) = of b
spelling_by of (Err e) = spelling.Bad e

abbrev pub packet_spelling : GivenItem → Spelling
packet_spelling i = spelling_by (spelling.Packet i.number) (packet_of i.number i.last)

abbrev pub telegram_spelling : ℕ → GivenItem → Spelling
telegram_spelling end i = spelling_by spelling.Telegram (telegram_of end i)

-- what an item is turned into that no line makes bad by its words
abbrev pub sound_spelling : ℕ → GivenItem → Option Bad → Spelling
sound_spelling end i (Some b) = spelling.Bad b
sound_spelling end i None = if is_alone i.place then packet_spelling i else telegram_spelling end i

-- what an item is turned into whose lines end before the line of this number
abbrev pub spelling_of : ℕ → GivenItem → Spelling
spelling_of end i = sound_spelling end i (first_bad i)

abbrev pub is_bad : Spelling → Bool
is_bad (spelling.Bad b) = true
is_bad _ = false

-- the line that is printed for it
abbrev pub spelling_text : Spelling → Text
spelling_text (spelling.Telegram b) = whole_line (hex_of b ∷ [])
spelling_text (spelling.Packet version b) = whole_line (codes "packet" ∷ decimal version ∷ hex_of b ∷ [])
spelling_text (spelling.Bad b) = bad_text b
