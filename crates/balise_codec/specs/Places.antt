-- The fields of a telegram with their places: each begins where the one before it ends (SUBSET-026, 8.4.2).
use Rattle.std.specs.Prelude.{◌≡◌, ◌+◌, ℕ, List, [], ◌∷◌, Bool, drop}
use Rattle.balise_rules.specs.declared.tag.Tag.{Tag}
use Rattle.balise_rules.specs.Variables.{width_of}
use Rattle.balise_rules.specs.Forms.{Fields}
use Rattle.balise_rules.specs.Packet.{Packet, width}
use Rattle.balise_rules.specs.Telegram.{Telegram, used}
use Rattle.balise_codec.specs.declared.placed.Placed.{Placed}
use Rattle.balise_codec.specs.declared.explain.PacketFields.{PacketFields}
use Rattle.balise_codec.specs.declared.explain.TelegramFields.{TelegramFields}

-- fields that stand one after another from a place on
abbrev pub placed : ℕ → Fields → List Placed
placed at [] = []
placed at (f ∷ fs) = record { at = at; var = f.0.0; occurrence = f.0.1; value = f.1 } ∷ placed (at + width_of f.0.0) fs

-- the fields of a packet at a place, and the bits after them
abbrev pub IsPlaced : ℕ → Packet → PacketFields → Type 0
IsPlaced at p x = (x.at ≡ at) × (x.fields.items ≡ placed at p.fields) × (x.rest ≡ p.rest)

-- the same of packets that stand one after another from a place on
abbrev pub ArePlaced : ℕ → List (Tag × Packet) → List PacketFields → Type 0
ArePlaced at [] [] = Unit {0}
ArePlaced at (p ∷ ps) (x ∷ xs) = IsPlaced at p.1 x × ArePlaced (at + width p.1) ps xs
ArePlaced at [] (x ∷ xs) = ⊥
ArePlaced at (p ∷ ps) [] = ⊥

-- The fields of a telegram with these bits: of its header from bit 0 on and of its packets from bit 50 on, packet 255, and
-- the bits after it.
pub record Explains (b : List Bool) (y : Telegram) (x : TelegramFields) : Type 0 where
  pub header : x.header.items ≡ placed 0 y.head
  pub packets : ArePlaced 50 y.packets x.packets.items
  pub end : x.end + 8 ≡ used y.packets
  pub padding : x.padding ≡ drop (used y.packets) b
