-- The laws of both runs: what is printed for a telegram or a packet is spelled as its digits, padding included, and these
-- digits are explained as the same fields.
use Rattle.std.specs.Prelude.{◌≡◌, ◌≤◌, ℕ, Bool, List, [], ◌∷◌, ◌++◌, length, codes, decimal, None, Ok}
use Rattle.balise_rules.specs.Digits.{hex_of}
use Rattle.balise_rules.specs.Packet.{Packet, IsSpelt, bits_of}
use Rattle.balise_rules.specs.Telegram.{IsLength, Telegram, read_telegram}
use Rattle.balise_codec.specs.declared.explain.PacketFields.{PacketFields}
use Rattle.balise_codec.specs.declared.explain.TelegramFields.{TelegramFields}
use Rattle.balise_codec.specs.Given.{IsGivenBy}
use Rattle.balise_codec.specs.Places.{Explains, IsPlaced}
use Rattle.balise_lines.specs.Lines.{lines_of}
use Rattle.balise_text.specs.Texts.{Text, line_of, whole_line}
use Rattle.balise_text.specs.Words.{most_number}
use Rattle.balise_fields.specs.declared.explained.Explained.{Explained}
use Rattle.balise_fields.specs.declared.explained.Explained.TheVariants as explained
use Rattle.balise_fields.specs.Explaining.{IsExplained}
use Rattle.balise_fields.specs.ExplainedTexts.{explained_text}
use Rattle.balise_items.specs.Items.{GivenItem}
use Rattle.balise_items.specs.Laws.{IsGivenTelegram}
use Rattle.balise_items.specs.Packets.{packet_of}
use Rattle.balise_items.specs.Sections.{Given}
use Rattle.balise_items.specs.Telegrams.{telegram_of}
use Rattle.balise_fields_run.specs.ItemLines.{closed_text, lines_text, next_of, open_of}

-- all that a run from fields to digits prints for an input
abbrev pub spelled_text : Text → Text
spelled_text input = lines_text 1 None (lines_of input) ++ closed_text (next_of (lines_of input)) (open_of (lines_of input))

abbrev pub TelegramIsSpelledBack : Type 0
TelegramIsSpelledBack = (b : List Bool) (y : Telegram) (t : TelegramFields) → read_telegram b ≡ Ok y → Explains b y t → spelled_text (explained_text (explained.Telegram (length b) t)) ≡ whole_line (hex_of b ∷ [])

abbrev pub PacketIsSpelledBack : Type 0
PacketIsSpelledBack = (version : ℕ) (p : Packet) (x : PacketFields) → version ≤ most_number → IsSpelt version p → IsPlaced 0 p x → spelled_text (explained_text (explained.Packet version x)) ≡ whole_line (codes "packet" ∷ decimal version ∷ hex_of (bits_of p) ∷ [])

-- The digits that an item is spelled as are explained as a telegram with the same fields.
abbrev pub TelegramIsExplainedBack : Type 0
TelegramIsExplainedBack = (end : ℕ) (i : GivenItem) (b : List Bool) (x : Explained) → IsLength i.number → telegram_of end i ≡ Ok b → IsExplained (hex_of b) x →
    (y : Telegram) × (t : TelegramFields) × (x ≡ explained.Telegram (length b) t) × IsGivenTelegram i b y × Explains b y t

-- The digits that a packet is spelled as are explained as a packet with the same fields.
abbrev pub PacketIsExplainedBack : Type 0
PacketIsExplainedBack = (version : ℕ) (s : Given) (b : List Bool) (x : Explained) → version ≤ most_number → packet_of version s ≡ Ok b → IsExplained (line_of (codes "packet" ∷ decimal version ∷ hex_of b ∷ [])) x →
    (p : Packet) × (f : PacketFields) × (x ≡ explained.Packet version f) × IsGivenBy version s.values s.rest p × (b ≡ bits_of p) × IsPlaced 0 p f
