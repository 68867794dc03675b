-- A telegram (SUBSET-026, 8.4.2): header, packets, packet 255 and padding; what is read and what is shown.
use Rattle.std.specs.Prelude.{◌≡◌, ℕ, zero, suc, ◌+◌, ◌-◌, ◌⊎◌, ◌==◌, ◌&&◌, ◌||◌, not, nat_lt, Bool, true, if◌then◌else◌, List, [], ◌∷◌, ◌++◌, length, take, drop, All, Option, Some, None, Result, Ok, Err}
use Rattle.balise_rules.specs.declared.variable.Var.TheVariants.{QUpdown, MVersion, QMedia, NPig, NTotal, MDup, MMcount, NidC, NidBg, QLink}
use Rattle.balise_rules.specs.declared.refusal.Refusal.{Refusal}
use Rattle.balise_rules.specs.declared.refusal.Refusal.TheVariants.{BadLength, NotABalise, NoEnd, PacketZero}
use Rattle.balise_rules.specs.declared.tag.Tag.{Tag}
use Rattle.balise_rules.specs.declared.tag.Tag.TheVariants.{Base}
use Rattle.balise_rules.specs.Bits.{num, ones}
use Rattle.balise_rules.specs.Forms.{Form, done, plain, Fields, Matches, Numbered, spelling, read_form}
use Rattle.balise_rules.specs.Packet.{Packet, value, bits_of, width, IsSpelt, read_body}

-- the header's fields, 50 bits
unfoldable pub header : Form
header = plain QUpdown (plain MVersion (plain QMedia (plain NPig (plain NTotal (plain MDup (plain MMcount (plain NidC (plain NidBg (plain QLink done)))))))))

-- A telegram: the fields of its header, its packets under their tags, and its padding. The padding has the telegram's
-- number of bits; those from the end of packet 255 on are shown.
pub record Telegram : Type 0 where
  pub head : Fields
  pub packets : List (Tag × Packet)
  pub padding : List Bool

-- M_VERSION
abbrev pub version_of : Telegram → ℕ
version_of y = value MVersion 0 y.head

-- from track to train, and a balise's
abbrev pub is_balise : Fields → Bool
is_balise head = value QUpdown 0 head == 1 && value QMedia 0 head == 0

-- how many bits header, packets and packet 255 take
abbrev pub used : List (Tag × Packet) → ℕ
used [] = 58
used (y ∷ ys) = width y.1 + used ys

abbrev pub room : Telegram → ℕ
room y = length y.padding - used y.packets

abbrev pub packets_bits : List (Tag × Packet) → List Bool
packets_bits [] = []
packets_bits (y ∷ ys) = bits_of y.1 ++ packets_bits ys

-- the bits that a telegram shows
abbrev pub shown : Telegram → List Bool
shown y = spelling y.head ++ (packets_bits y.packets ++ (ones 8 ++ drop (used y.packets) y.padding))

-- packets tagged by their place, counted on from n
abbrev pub TaggedFrom : ℕ → List (Tag × Packet) → Type 0
TaggedFrom n [] = Unit {0}
TaggedFrom n (y ∷ ys) = (y.0 ≡ Base n) × TaggedFrom (suc n) ys

abbrev pub IsLength : ℕ → Type 0
IsLength n = (n ≡ 210) ⊎ (n ≡ 830)

-- The bits are a telegram's, and it is the one that is read from them: its padding has ones up to the end of packet 255, and then the bits that were read.
pub record IsRead (b : List Bool) (y : Telegram) : Type 0 where
  pub size : IsLength (length b)
  pub header : Matches header y.head []
  pub numbered : Numbered y.head
  pub balise : is_balise y.head ≡ true
  pub tags : TaggedFrom 0 y.packets
  pub packets : All (λ p. IsSpelt (version_of y) p.1) y.packets
  pub shows : shown y ≡ b
  pub padding : y.padding ≡ ones (used y.packets) ++ drop (used y.packets) b

-- a packet read, and those that are read from the bits after it
abbrev pub with_more : Tag → Packet → Result (List (Tag × Packet) × List Bool) Refusal → Result (List (Tag × Packet) × List Bool) Refusal
with_more t p (Err r) = Err r
with_more t p (Ok more) = Ok ((t, p) ∷ more.0, more.1)

abbrev pub and_more : Tag → Result (Packet × List Bool) Refusal → (List Bool → Result (List (Tag × Packet) × List Bool) Refusal) → Result (List (Tag × Packet) × List Bool) Refusal
and_more t (Err r) rest = Err r
and_more t (Ok p) rest = with_more t p.0 (rest p.1)

-- the packets up to packet 255 and the bits after it, or the first fault; the tags count on from n, and no more than `most` packets are looked at
unfoldable pub read_packets : ℕ → ℕ → ℕ → List Bool → Result (List (Tag × Packet) × List Bool) Refusal
read_packets zero version n b = Err NoEnd
read_packets (suc most) version n b =
    if nat_lt (length b) 8 then Err NoEnd
    else if num (take 8 b) == 255 then Ok ([], drop 8 b)
    else if num (take 8 b) == 0 then Err PacketZero
    else and_more (Base n) (read_body version b) (λ rest. read_packets most version (suc n) rest)

abbrev pub fields_or_none : Option (Fields × List Bool) → Fields
fields_or_none None = []
fields_or_none (Some r) = r.0

-- the header's fields at the front of the bits
unfoldable pub read_header : List Bool → Fields
read_header b = fields_or_none (read_form header [] (take 50 b))

abbrev pub with_header : Fields → Result (List (Tag × Packet) × List Bool) Refusal → Result Telegram Refusal
with_header head (Err r) = Err r
with_header head (Ok r) = Ok (record { head = head; packets = r.0; padding = ones (used r.0) ++ r.1 })

-- the telegram that the bits are, or the first fault
unfoldable pub read_telegram : List Bool → Result Telegram Refusal
read_telegram b =
    if not (length b == 210 || length b == 830) then Err BadLength
    else if not (is_balise (read_header b)) then Err NotABalise
    else with_header (read_header b) (read_packets (length b) (value MVersion 0 (read_header b)) 0 (drop 50 b))
