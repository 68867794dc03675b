-- The view as values of JSON, for private clauses: their text is the view's.
use Rattle.std.specs.Prelude.{ℕ, Bool, codes, length, map}
use Rattle.serde_json.specs.Data.{Data, boolean, number, unsigned, string, array, object, item, no_items, member, no_members}
use Rattle.serde_json.specs.View.{items_of}
use Rattle.balise_rules.specs.declared.variable.Var.TheVariants.{NidPacket, MDup, MMcount, QLink}
use Rattle.balise_rules.specs.Variables.{name_of}
use Rattle.balise_rules.specs.Tags.{Key}
use Rattle.balise_rules.specs.Forms.{Fields}
use Rattle.balise_rules.specs.Packet.{Packet, value}
use Rattle.balise_rules.specs.Packets.{is_known}
use Rattle.balise_rules.specs.Telegram.{Telegram, version_of, used}
use Rattle.balise_rules.specs.Plan.{Group, identity_of}

-- a number without sign
abbrev pub natural : ℕ → Data
natural n = number (unsigned n)

abbrev pub field_data : Key × ℕ → Data
field_data f = array (item (string (name_of f.0.0)) (item (natural f.1) no_items))

-- a packet with these fields, and whether it is known
abbrev pub fields_data : Bool → Fields → Data
fields_data known fs = object (member (codes "fields") (array (items_of (map field_data fs))) (member (codes "known") (boolean known) no_members))

abbrev pub packet_data : ℕ → Packet → Data
packet_data version p = fields_data (is_known version (value NidPacket 0 p.fields)) p.fields

abbrev pub telegram_data : Telegram → Data
telegram_data y = object (
    member (codes "bits") (natural (length y.padding))
    (member (codes "m_dup") (natural (value MDup 0 y.head))
    (member (codes "m_mcount") (natural (value MMcount 0 y.head))
    (member (codes "m_version") (natural (version_of y))
    (member (codes "packets") (array (items_of (map (λ p. packet_data (version_of y) p.1) y.packets)))
    (member (codes "q_link") (natural (value QLink 0 y.head))
    (member (codes "used") (natural (used y.packets)) no_members)))))))

abbrev pub group_data : Group → Data
group_data ys = object (
    member (codes "country") (natural (identity_of ys).country)
    (member (codes "number") (natural (identity_of ys).number)
    (member (codes "telegrams") (array (items_of (map (λ y. telegram_data y.1) ys))) no_members)))
