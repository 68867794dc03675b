-- First laws of the rules.
use Rattle.std.specs.Prelude.{◌≡◌, ◌↔◌, ◌++◌, ℕ, Bool, List, Ok}
use Rattle.balise_rules.specs.declared.tag.Tag.{Tag}
use Rattle.balise_rules.specs.Tagged.{Distinct, Change, changed, IsNew}
use Rattle.balise_rules.specs.Tags.{same_tag}
use Rattle.balise_rules.specs.Packet.{Packet, Spells, IsSpelt, bits_of, read_body}
use Rattle.balise_rules.specs.Telegram.{Telegram, IsRead, shown, read_telegram}
use Rattle.balise_rules.specs.Plan.{Group}

-- Bits encode at most one packet.
abbrev pub OneSpelling : Type 0
OneSpelling = (version : ℕ) → (b : List Bool) → (p q : Packet) → Spells version b p → Spells version b q → p ≡ q

-- A packet is read exactly where the bits at the front encode it.
abbrev pub PacketsRead : Type 0
PacketsRead = (version : ℕ) → (b : List Bool) → (p : Packet) → (behind : List Bool) → (read_body version b ≡ Ok (p, behind)) ↔ ((b ≡ bits_of p ++ behind) × IsSpelt version p)

-- A telegram is read exactly where the bits are one.
abbrev pub TelegramsRead : Type 0
TelegramsRead = (b : List Bool) → (y : Telegram) → (read_telegram b ≡ Ok y) ↔ IsRead b y

-- What a telegram shows after reading is what was read, padding included.
abbrev pub ShownAsRead : Type 0
ShownAsRead = (b : List Bool) → (y : Telegram) → read_telegram b ≡ Ok y → shown y ≡ b

-- A list with distinct tags keeps them under each change, where what is put in is new: for packets and for groups.
abbrev pub TagsKept : Type 0
TagsKept =
    ((c : Change Tag Packet) → (xs : List (Tag × Packet)) → Distinct same_tag xs → IsNew same_tag c xs → Distinct same_tag (changed same_tag c xs))
    × ((c : Change Tag Group) → (xs : List (Tag × Group)) → Distinct same_tag xs → IsNew same_tag c xs → Distinct same_tag (changed same_tag c xs))
