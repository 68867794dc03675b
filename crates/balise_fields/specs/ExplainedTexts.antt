-- What is printed for digits that are explained (this project's text).
use Rattle.std.specs.Prelude.{ℕ, Bool, List, [], ◌∷◌, ◌++◌, length, map, codes, decimal, Option, Some, None}
use Rattle.balise_rules.specs.Refusals as refusals
use Rattle.balise_rules.specs.Variables.{name_of, width_of}
use Rattle.balise_codec.specs.declared.placed.Placed.{Placed}
use Rattle.balise_codec.specs.declared.explain.PacketFields.{PacketFields}
use Rattle.balise_codec.specs.declared.explain.TelegramFields.{TelegramFields}
use Rattle.balise_text.specs.Texts.{Text, text_of, whole_line}
use Rattle.balise_text.specs.Printing.{fours_of}
use Rattle.balise_fields.specs.declared.explained.FaultDue.{FaultDue}
use Rattle.balise_fields.specs.declared.explained.FaultDue.TheVariants.{Digit, Length, Zero, Field, End, Another}
use Rattle.balise_fields.specs.declared.explained.DigitFault.{DigitFault}
use Rattle.balise_fields.specs.declared.explained.Begun.{Begun}
use Rattle.balise_fields.specs.declared.explained.Explained.{Explained}
use Rattle.balise_fields.specs.declared.explained.Explained.TheVariants as explained

-- AT WIDTH NAME K VALUE
abbrev pub field_text : Placed → Text
field_text f = whole_line (decimal f.at ∷ decimal (width_of f.var) ∷ name_of f.var ∷ decimal f.occurrence ∷ decimal f.value ∷ [])

abbrev pub fields_text : List Placed → Text
fields_text fs = text_of (map field_text fs)

-- NAME BITS HEX, if there are any bits
abbrev pub bits_text : Text → List Bool → Text
bits_text name [] = []
bits_text name (b ∷ bs) = whole_line (name ∷ decimal (length (b ∷ bs)) ∷ fours_of (b ∷ bs) ∷ [])

-- the fields of a packet, and the bits after them
abbrev pub in_packet : PacketFields → Text
in_packet x = fields_text x.fields.items ++ bits_text (codes "rest") x.rest

abbrev pub packet_text : PacketFields → Text
packet_text x = codes "packet\n" ++ in_packet x

abbrev pub packets_text : List PacketFields → Text
packets_text xs = text_of (map packet_text xs)

-- a telegram up to the end of its packets
abbrev pub front_text : ℕ → List Placed → List PacketFields → Text
front_text len header packets = whole_line (codes "telegram" ∷ decimal len ∷ []) ++ (fields_text header ++ packets_text packets)

abbrev pub telegram_text : ℕ → TelegramFields → Text
telegram_text len t = front_text len t.header.items t.packets.items ++ (codes "end\n" ++ bits_text (codes "padding") t.padding)

-- the word for what was due
abbrev pub due_text : FaultDue → Text
due_text Digit = codes "digit"
due_text Length = codes "length"
due_text Zero = codes "zero"
due_text (Field v) = name_of v
due_text End = codes "end"
due_text Another = codes "another"

-- the place of a packet, or `-`
abbrev pub place_text : Option ℕ → Text
place_text None = codes "-"
place_text (Some n) = decimal n

-- fault NUMBER NAME PACKET BIT DUE
abbrev pub fault_text : DigitFault → Text
fault_text f = whole_line (codes "fault" ∷ decimal (refusals.number_of f.refusal) ∷ refusals.name_of f.refusal ∷ place_text f.packet ∷ decimal f.bit ∷ due_text f.due ∷ [])

-- the fields before the fault of the packet that it is in, if it is in one
abbrev pub last_text : List Placed → Text
last_text [] = []
last_text (f ∷ fs) = codes "packet\n" ++ fields_text (f ∷ fs)

abbrev pub begun_text : Begun → Text
begun_text x = front_text x.len x.header.items x.packets.items ++ (last_text x.last.items ++ fault_text x.fault)

-- packet VERSION
abbrev pub alone_line : ℕ → Text
alone_line version = whole_line (codes "packet" ∷ decimal version ∷ [])

abbrev pub explained_text : Explained → Text
explained_text explained.Plan = codes "plan 1\n"
explained_text explained.Group = codes "group\n"
explained_text (explained.Telegram len t) = telegram_text len t
explained_text (explained.Begun x) = begun_text x
explained_text (explained.Packet version x) = alone_line version ++ in_packet x
explained_text (explained.PacketBegun version fs f) = alone_line version ++ (fields_text fs.items ++ fault_text f)
explained_text (explained.Digits f) = fault_text f
