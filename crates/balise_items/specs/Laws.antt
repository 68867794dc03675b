-- The laws of both ways: what is explained is spelt as the same bits, and what is spelt is explained as the same fields.
use Rattle.std.specs.Prelude.{◌≡◌, ◌≢◌, ◌≤◌, ◌-◌, ◌+◌, ℕ, Bool, List, [], ◌∷◌, ◌++◌, All, length, map, drop, codes, Option, Some, Ok}
use Rattle.balise_rules.specs.declared.tag.Tag.{Tag}
use Rattle.balise_rules.specs.Bits.{ones}
use Rattle.balise_rules.specs.Forms.{Fields}
use Rattle.balise_rules.specs.Packet.{Packet, IsSpelt, bits_of}
use Rattle.balise_rules.specs.Telegram.{Telegram, IsLength, read_telegram, used, version_of}
use Rattle.balise_codec.specs.declared.explain.PacketFields.{PacketFields}
use Rattle.balise_codec.specs.declared.explain.TelegramFields.{TelegramFields}
use Rattle.balise_codec.specs.Given.{IsGivenBy}
use Rattle.balise_codec.specs.Places.{Explains, IsPlaced}
use Rattle.balise_codec.specs.Spelling.{said}
use Rattle.balise_text.specs.Texts.{Text}
use Rattle.balise_text.specs.Words.{most_number}
use Rattle.balise_fields.specs.ExplainedTexts.{alone_line, in_packet, telegram_text}
use Rattle.balise_fields.specs.FieldLines.{field_line_of}
use Rattle.balise_fields.specs.declared.field_line.FieldLine.{FieldLine}
use Rattle.balise_fields.specs.declared.field_line.FieldLine.TheVariants as line
use Rattle.balise_items.specs.declared.spelling.Spelling.TheVariants as spelling
use Rattle.balise_items.specs.Items.{GivenItem, begun, with_line}
use Rattle.balise_items.specs.Packets.{packet_of}
use Rattle.balise_items.specs.Sections.{Given}
use Rattle.balise_items.specs.Spellings.{spelling_of}
use Rattle.balise_items.specs.Telegrams.{head_of, telegram_of}

-- ---- what the lines say that a telegram or a packet is explained as

abbrev pub field_lines : Fields → List FieldLine
field_lines [] = []
field_lines (f ∷ fs) = line.Field (Some f.0.0) f.1 ∷ field_lines fs

-- a line of bits, if there are any
abbrev pub bits_lines : (Option (List Bool) → FieldLine) → List Bool → List FieldLine
bits_lines of [] = []
bits_lines of (b ∷ bs) = of (Some (b ∷ bs)) ∷ []

-- the fields of a packet, and the bits after them
abbrev pub packet_lines : Packet → List FieldLine
packet_lines p = field_lines p.fields ++ bits_lines line.Rest p.rest

abbrev pub packets_lines : List (Tag × Packet) → List FieldLine
packets_lines [] = []
packets_lines (p ∷ ps) = line.Packet ∷ (packet_lines p.1 ++ packets_lines ps)

-- those after the first line of a telegram
abbrev pub telegram_lines : List Bool → Telegram → List FieldLine
telegram_lines b y = field_lines y.head ++ (packets_lines y.packets ++ (line.End ∷ bits_lines line.Padding (drop (used y.packets) b)))

-- lines one after another, numbered from this number on, added to an item
abbrev pub with_lines : ℕ → GivenItem → List FieldLine → GivenItem
with_lines n i [] = i
with_lines n i (l ∷ ls) = with_lines (n + 1) (with_line n l i) ls

-- the item of a first line, which has this number, and of others
abbrev pub item_of : ℕ → FieldLine → List FieldLine → GivenItem
item_of n l ls = with_lines (n + 1) (begun n l) ls

-- The fields that a telegram is explained as are encoded as its bits, padding included.
abbrev pub TelegramIsSpelt : Type 0
TelegramIsSpelt = (n end : ℕ) (b : List Bool) (y : Telegram) → read_telegram b ≡ Ok y → spelling_of end (item_of n (line.Telegram (Some (length b))) (telegram_lines b y)) ≡ spelling.Telegram b

-- The fields that a packet is explained as are encoded as its bits.
abbrev pub PacketIsSpelt : Type 0
PacketIsSpelt = (n end version : ℕ) (p : Packet) → IsSpelt version p → spelling_of end (item_of n (line.Alone (Some version)) (packet_lines p)) ≡ spelling.Packet version (bits_of p)

-- ---- the text that is printed for it

-- lines, each with its end
abbrev pub with_ends : List Text → Text
with_ends [] = []
with_ends (t ∷ ts) = (t ++ codes "\n") ++ with_ends ts

-- a text without a line feed, 10, that says this
pub record Says (t : Text) (l : FieldLine) : Type 0 where
  pub one : All (λ b. b ≢ 10) t
  pub says : field_line_of t ≡ l

abbrev pub SayAll : List Text → List FieldLine → Type 0
SayAll [] [] = Unit {0}
SayAll (t ∷ ts) (l ∷ ls) = Says t l × SayAll ts ls
SayAll [] (l ∷ ls) = ⊥
SayAll (t ∷ ts) [] = ⊥

-- The text is lines that say these.
pub record Printed (t : Text) (ls : List FieldLine) : Type 0 where
  pub lines : List Text
  pub whole : t ≡ with_ends lines
  pub say : SayAll lines ls

-- What is printed for a telegram says what its lines do.
abbrev pub TelegramIsPrinted : Type 0
TelegramIsPrinted = (b : List Bool) (y : Telegram) (t : TelegramFields) → read_telegram b ≡ Ok y → Explains b y t → Printed (telegram_text (length b) t) (line.Telegram (Some (length b)) ∷ telegram_lines b y)

-- What is printed for a packet says what its lines do.
abbrev pub PacketIsPrinted : Type 0
PacketIsPrinted = (version : ℕ) (p : Packet) (x : PacketFields) → version ≤ most_number → IsSpelt version p → IsPlaced 0 p x → Printed (alone_line version ++ in_packet x) (line.Alone (Some version) ∷ packet_lines p)

-- ---- what is encoded

-- the sections after the header
abbrev pub after_head : List Given → Given → List Given
after_head [] last = []
after_head (head ∷ packets) last = packets ++ last ∷ []

-- each packet has the values of its section, L_PACKET named or left out, and its bits after them
abbrev pub AreGivenBy : ℕ → List Given → List (Tag × Packet) → Type 0
AreGivenBy version [] [] = Unit {0}
AreGivenBy version (s ∷ ss) (p ∷ ps) = IsGivenBy version s.values s.rest p.1 × AreGivenBy version ss ps
AreGivenBy version [] (p ∷ ps) = ⊥
AreGivenBy version (s ∷ ss) [] = ⊥

-- the padding that is given; if none is given, ones up to `due` bits, since `taken` of them are used already
abbrev pub given_padding : ℕ → ℕ → List Bool → List Bool
given_padding due taken [] = ones (due - taken)
given_padding due taken (b ∷ bs) = b ∷ bs

-- The bits are a telegram's, and it has the header, the packets and the padding of the item.
pub record IsGivenTelegram (i : GivenItem) (b : List Bool) (y : Telegram) : Type 0 where
  pub read : read_telegram b ≡ Ok y
  pub head : map said y.head ≡ (head_of i.before i.last).values
  pub packets : AreGivenBy (version_of y) (after_head i.before i.last) y.packets
  pub padding : drop (used y.packets) b ≡ given_padding i.number (used y.packets) i.padding

-- The bits that fields are encoded as are read as a telegram with the same fields.
abbrev pub SpeltIsTelegram : Type 0
SpeltIsTelegram = (end : ℕ) (i : GivenItem) (b : List Bool) → IsLength i.number → telegram_of end i ≡ Ok b → (y : Telegram) × IsGivenTelegram i b y

-- The bits that fields are encoded as are a packet with the same fields.
abbrev pub SpeltIsPacket : Type 0
SpeltIsPacket = (version : ℕ) (s : Given) (b : List Bool) → packet_of version s ≡ Ok b → (p : Packet) × IsGivenBy version s.values s.rest p × (b ≡ bits_of p)
