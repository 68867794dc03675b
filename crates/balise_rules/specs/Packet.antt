-- A packet (SUBSET-026, chapter 7): what its bits spell, and how it is read.
use Rattle.std.specs.Prelude.{◌≡◌, ℕ, ◌==◌, ◌||◌, nat_lt, Bool, cond, if◌then◌else◌, List, [], ◌++◌, length, take, drop, Option, Some, None, Result, Ok, Err, unwrap_or}
use Rattle.balise_rules.specs.declared.variable.Var.{Var}
use Rattle.balise_rules.specs.declared.variable.Var.TheVariants.{LPacket}
use Rattle.balise_rules.specs.declared.refusal.Refusal.{Refusal}
use Rattle.balise_rules.specs.declared.refusal.Refusal.TheVariants.{PacketCut, LayoutMismatch, PacketZero}
use Rattle.balise_rules.specs.Bits.{num}
use Rattle.balise_rules.specs.Tagged.{find, each}
use Rattle.balise_rules.specs.Tags.{same_key}
use Rattle.balise_rules.specs.Forms.{Fields, Matches, Numbered, spelling, read_form}
use Rattle.balise_rules.specs.Packets.{packet}

-- A packet: its fields in bit order and, where it is unknown, the rest of its bits.
pub record Packet : Type 0 where
  pub fields : Fields
  pub rest : List Bool

abbrev pub field_of : Var → ℕ → Fields → Option ℕ
field_of v k fs = find same_key (v, k) fs

-- a field's value; 0 where it isn't there
abbrev pub value : Var → ℕ → Fields → ℕ
value v k fs = unwrap_or (field_of v k fs) 0

-- the fields with another value of one of them
abbrev pub with_value : Var → ℕ → ℕ → Fields → Fields
with_value v k n fs = each (λ key old. cond (same_key (v, k) key) n old) fs

abbrev pub bits_of : Packet → List Bool
bits_of p = spelling p.fields ++ p.rest

abbrev pub width : Packet → ℕ
width p = length (bits_of p)

-- The bits are one packet with these fields in a telegram of this version; L_PACKET is their number.
pub record Spells (version : ℕ) (b : List Bool) (p : Packet) : Type 0 where
  pub spelt : b ≡ bits_of p
  pub form : Matches (packet version) p.fields p.rest
  pub numbered : Numbered p.fields
  pub said : value LPacket 0 p.fields ≡ length b

abbrev pub IsSpelt : ℕ → Packet → Type 0
IsSpelt version p = Spells version (bits_of p) p

-- what L_PACKET says, 10 bits after a packet's begin
abbrev pub length_said : List Bool → ℕ
length_said b = num (take 13 (drop 10 b))

-- L_PACKET isn't there, is below the 23 bits of the first three fields, or goes past the end
abbrev pub is_cut : List Bool → Bool
is_cut b = nat_lt (length b) 23 || nat_lt (length_said b) 23 || nat_lt (length b) (length_said b)

abbrev pub read_packet : List Bool → Option (Fields × List Bool) → Result (Packet × List Bool) Refusal
read_packet behind None = Err LayoutMismatch
read_packet behind (Some r) = Ok (record { fields = r.0; rest = r.1 }, behind)

-- the packet at the front of the bits, which has no number 0 or 255, and the bits after it, or the first fault
unfoldable pub read_body : ℕ → List Bool → Result (Packet × List Bool) Refusal
read_body version b =
    if is_cut b then Err PacketCut
    else read_packet (drop (length_said b) b) (read_form (packet version) [] (take (length_said b) b))

-- the same for any bits
unfoldable pub read_first : ℕ → List Bool → Result (Packet × List Bool) Refusal
read_first version b =
    if nat_lt (length b) 8 then Err PacketCut
    else if num (take 8 b) == 0 then Err PacketZero
    else if num (take 8 b) == 255 then Err LayoutMismatch
    else read_body version b
