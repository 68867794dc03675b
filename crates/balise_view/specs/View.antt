-- The view of a group: one line of JSON (RFC 8259) with no space in it, the keys of each object in the order of their bytes (this project's text).
-- Header and padding are those of SUBSET-026, 8.4.2, packets those of its chapter 7.
use Rattle.std.specs.Prelude.{ℕ, [], ◌∷◌, codes, decimal, length, map}
use Rattle.balise_rules.specs.declared.variable.Var.TheVariants.{NidPacket, MDup, MMcount, QLink}
use Rattle.balise_rules.specs.Variables.{name_of}
use Rattle.balise_rules.specs.Tags.{Key}
use Rattle.balise_rules.specs.Packet.{Packet, value}
use Rattle.balise_rules.specs.Packets.{is_known}
use Rattle.balise_rules.specs.Telegram.{Telegram, version_of, used}
use Rattle.balise_rules.specs.Plan.{Group, identity_of}
use Rattle.balise_view.specs.Texts.{Text, text_of, list_text, truth_text}

-- a field: its variable's name and its value
abbrev pub field_text : Key × ℕ → Text
field_text f = text_of (codes "[\"" ∷ name_of f.0.0 ∷ codes "\"," ∷ decimal f.1 ∷ codes "]" ∷ [])

-- a packet of a telegram of this version: its fields in bit order, of an unknown one the first three, and whether it is known
abbrev pub packet_text : ℕ → Packet → Text
packet_text version p = text_of (
    codes "{\"fields\":" ∷ list_text (map field_text p.fields)
    ∷ codes ",\"known\":" ∷ truth_text (is_known version (value NidPacket 0 p.fields)) ∷ codes "}" ∷ [])

-- a telegram: how many bits it has, the variables of its header that a group may differ in, its packets, and the bits used by header, packets and packet 255
abbrev pub telegram_text : Telegram → Text
telegram_text y = text_of (
    codes "{\"bits\":" ∷ decimal (length y.padding)
    ∷ codes ",\"m_dup\":" ∷ decimal (value MDup 0 y.head)
    ∷ codes ",\"m_mcount\":" ∷ decimal (value MMcount 0 y.head)
    ∷ codes ",\"m_version\":" ∷ decimal (version_of y)
    ∷ codes ",\"packets\":" ∷ list_text (map (λ p. packet_text (version_of y) p.1) y.packets)
    ∷ codes ",\"q_link\":" ∷ decimal (value QLink 0 y.head)
    ∷ codes ",\"used\":" ∷ decimal (used y.packets) ∷ codes "}" ∷ [])

-- a group: its identity and its telegrams in the order of N_PIG
abbrev pub group_text : Group → Text
group_text ys = text_of (
    codes "{\"country\":" ∷ decimal (identity_of ys).country
    ∷ codes ",\"number\":" ∷ decimal (identity_of ys).number
    ∷ codes ",\"telegrams\":" ∷ list_text (map (λ y. telegram_text y.1) ys) ∷ codes "}" ∷ [])
