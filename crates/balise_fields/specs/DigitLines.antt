-- What a line of digits is, by its words.
use Rattle.std.specs.Prelude.{◌≡◌, ◌≢◌, ℕ, List, [], ◌∷◌, codes, bytes_eq, if◌then◌else◌, Option, Some, None}
use Rattle.balise_text.specs.Texts.{Text}
use Rattle.balise_text.specs.Words.{Word, number_of, words_of}
use Rattle.balise_text.specs.DigitWords.{some_word}
use Rattle.balise_fields.specs.declared.digit_line.DigitLine.{DigitLine}
use Rattle.balise_fields.specs.declared.digit_line.DigitLine.TheVariants.{Plan, Group, Packet, Telegram}

abbrev pub both : {A B : Type 0} → Option A → Option B → Option (A × B)
both (Some x) (Some y) = Some (x, y)
both _ _ = None

-- packet VERSION HEX: M_VERSION, and the digits of a packet by itself
abbrev pub packet_words : List Word → Option (ℕ × Word)
packet_words (name ∷ version ∷ digits ∷ []) = if bytes_eq name (codes "packet") then both (number_of version) (some_word digits) else None
packet_words _ = None

abbrev pub packet_digits : Text → Option (ℕ × Word)
packet_digits line = packet_words (words_of line)

-- a line that is none of the others is a telegram's digits
abbrev pub IsTelegramLine : Text → Type 0
IsTelegramLine line = (line ≢ codes "plan 1") × (line ≢ codes "group") × (packet_digits line ≡ None)

abbrev pub IsDigitLine : Text → DigitLine → Type 0
IsDigitLine line Plan = line ≡ codes "plan 1"
IsDigitLine line Group = line ≡ codes "group"
IsDigitLine line (Packet version digits) = packet_digits line ≡ Some (version, digits.now)
IsDigitLine line Telegram = IsTelegramLine line
