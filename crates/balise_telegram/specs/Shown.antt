-- A telegram as it is held: the bits that it shows and, once its packets were edited, their tags and its ground.
use Rattle.std.specs.Prelude.{◌≡◌, ◌+◌, ℕ, min, List, [], ◌∷◌, ◌++◌, All, Bool, true, length, map, take, drop, Option, Some, None, option_map, slice_get, ◌≤◌}
use Rattle.std.specs.List.{position}
use Rattle.balise_rules.specs.declared.tag.Tag.{Tag}
use Rattle.balise_rules.specs.Bits.{ones}
use Rattle.balise_rules.specs.Forms.{Matches, Numbered}
use Rattle.balise_rules.specs.Packet.{Packet, width, IsSpelt}
use Rattle.balise_rules.specs.Tagged.{Distinct}
use Rattle.balise_rules.specs.Tags.{same_tag}
use Rattle.balise_rules.specs.Telegram.{Telegram, header, is_balise, read_telegram, shown, used, version_of, IsLength, TaggedFrom}
use Rattle.balise_telegram.specs.declared.telegram.contents.Contents.{Contents}
use Rattle.balise_telegram.specs.declared.telegram.contents.Contents.TheVariants as held
use Rattle.balise_telegram.specs.declared.telegram.edited.Edited.{Edited}
use Rattle.balise_telegram.specs.declared.telegram.walking.Place.{Place}
use Rattle.balise_telegram.specs.Packed.{telegram_of}

-- what is kept besides the bits: nothing as read, then tags and ground
abbrev pub Kept : Type 0
Kept = Option Edited

-- the bits
abbrev pub packed_of : Contents → List Bool
packed_of (held.Read b) = b
packed_of (held.Edited e) = e.value.packed

-- what is kept besides them
abbrev pub kept_of : Contents → Kept
kept_of (held.Read b) = None
kept_of (held.Edited e) = Some e.value.kept

-- packets under these tags, in order
abbrev pub tagged_by : List Tag → List (Tag × Packet) → List (Tag × Packet)
tagged_by [] ps = []
tagged_by (t ∷ ts) [] = []
tagged_by (t ∷ ts) (p ∷ ps) = (t, p.1) ∷ tagged_by ts ps

abbrev pub tags_of : List (Tag × Packet) → List Tag
tags_of ps = map (λ (p : Tag × Packet). p.0) ps

-- the telegram with these tags and this ground
abbrev pub seen_as : List Tag → List Bool → Telegram → Telegram
seen_as tags ground y = record { head = y.head; packets = tagged_by tags y.packets; padding = ground }

-- the telegram that the bits, and what is kept besides them, are
abbrev pub seen : List Bool → Kept → Telegram
seen b None = telegram_of (read_telegram b)
seen b (Some e) = seen_as e.tags.items e.ground (telegram_of (read_telegram b))

-- The bits are those that the telegram shows, which is in order.
pub record IsShown (b : List Bool) (y : Telegram) : Type 0 where
  pub size : IsLength (length b)
  pub header : Matches header y.head []
  pub numbered : Numbered y.head
  pub balise : is_balise y.head ≡ true
  pub tags : Distinct same_tag y.packets
  pub packets : All (λ p. IsSpelt (version_of y) p.1) y.packets
  pub shows : shown y ≡ b
  pub ground : length y.padding ≡ length b

-- tags and ground are the telegram's, and so is the number of bits that are used
abbrev pub IsOver : Edited → Telegram → Type 0
IsOver e y = (e.tags.items ≡ tags_of y.packets) × (e.ground ≡ y.padding) × (e.used ≡ used y.packets)

-- What is kept besides the bits is the telegram's: as read, tags by places, and ones for the ground up to the end of packet 255.
abbrev pub IsKept : Kept → Telegram → Type 0
IsKept None y = TaggedFrom 0 y.packets × (y.padding ≡ ones (used y.packets) ++ drop (used y.packets) y.padding)
IsKept (Some e) y = IsOver e y

-- The bits, and what is kept besides them, stand for this telegram.
pub record StandsFor (b : List Bool) (k : Kept) (y : Telegram) : Type 0 where
  pub shown : IsShown b y
  pub kept : IsKept k y

-- n packets are gone over, at most `most`. After them the next one, or packet 255, stands at a place.
pub record Passes (ps : List (Tag × Packet)) (most n at : ℕ) : Type 0 where
  pub counted : n ≡ min most (length ps)
  pub place : at + 8 ≡ used (take n ps)

-- a packet of w bits stands at a place of the order and of the bits, and u bits are used
pub record Spot (y : Telegram) (i at w u : ℕ) : Type 0 where
  pub packet : Tag × Packet
  pub is : slice_get y.packets i ≡ Some packet
  pub wide : w ≡ width packet.1
  pub place : at + 8 ≡ used (take i y.packets)
  pub all : u ≡ used y.packets

-- a place of the order and of the bits where a packet of w bits can be put in
pub record Gap (y : Telegram) (i at w u : ℕ) : Type 0 where
  pub within : i ≤ length y.packets
  pub place : at + 8 ≡ used (take i y.packets)
  pub all : u ≡ used y.packets
  pub room : u + w ≤ length y.padding

-- At the place stands the packet with its index, or packet 255 after the last one.
abbrev pub IsPlace : Telegram → Place → Type 0
IsPlace y p = (p.index ≤ length y.packets) × (p.at + 8 ≡ used (take p.index y.packets))

-- A packet stands between two places, and goes to a third place.
pub record Goes (y : Telegram) (tag : Tag) (x : Packet) (from after to : Place) (u : ℕ) : Type 0 where
  pub found : Some from.index ≡ position (λ (q : Tag × Packet). same_tag tag q.0) y.packets
  pub packet : (z : Tag × Packet) → slice_get y.packets from.index ≡ Some z → x ≡ z.1
  pub begins : IsPlace y from
  pub next : after.index ≡ from.index + 1
  pub ends : IsPlace y after
  pub there : IsPlace y to
  pub all : u ≡ used y.packets

-- how many packets stand before a place, where there is one
abbrev pub index_of : Option Place → Option ℕ
index_of p = option_map (λ (q : Place). q.index) p
