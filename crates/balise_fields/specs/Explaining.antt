-- What digits are explained as: the fields of a telegram or of a packet by itself with their places, up to a fault.
use Rattle.std.specs.Prelude.{◌≡◌, ◌≢◌, ◌⊎◌, ℕ, ◌+◌, ◌*◌, Bool, true, false, List, [], ◌∷◌, length, take, drop, codes, if◌then◌else◌, is_some, Option, Some, None, Ok, Err}
use Rattle.balise_rules.specs.declared.refusal.Refusal.{Refusal}
use Rattle.balise_rules.specs.declared.refusal.Refusal.TheVariants as refusal
use Rattle.balise_rules.specs.declared.tag.Tag.{Tag}
use Rattle.balise_rules.specs.declared.variable.Var.{Var}
use Rattle.balise_rules.specs.declared.variable.Var.TheVariants.{QUpdown, MVersion, QMedia}
use Rattle.balise_rules.specs.Addresses.{packet_in}
use Rattle.balise_rules.specs.Digits.{digit_bits, digit_value, read_digits, read_hex}
use Rattle.balise_rules.specs.Packet.{Packet, length_said, value}
use Rattle.balise_rules.specs.Telegram.{Telegram, is_balise, read_header, read_telegram}
use Rattle.balise_layout.specs.Collected.{all_keyed}
use Rattle.balise_telegram.specs.declared.fault.TelegramFault.{TelegramFault}
use Rattle.balise_telegram.specs.Faults.{refusal_of}
use Rattle.balise_codec.specs.declared.reach.Reach.{Reach}
use Rattle.balise_codec.specs.declared.stop.Stop.{Stop}
use Rattle.balise_codec.specs.declared.trace.Due.{Due}
use Rattle.balise_codec.specs.declared.trace.Due.TheVariants as due
use Rattle.balise_codec.specs.Heads.{Tells}
use Rattle.balise_codec.specs.Places.{placed, ArePlaced, Explains, IsPlaced}
use Rattle.balise_codec.specs.Stops.{IsLongest, IsStop}
use Rattle.balise_text.specs.DigitWords.{bits_due}
use Rattle.balise_text.specs.Texts.{Text}
use Rattle.balise_fields.specs.declared.explained.FaultDue.{FaultDue}
use Rattle.balise_fields.specs.declared.explained.FaultDue.TheVariants.{Digit, Length, Zero, Field, End, Another}
use Rattle.balise_fields.specs.declared.explained.DigitFault.{DigitFault}
use Rattle.balise_fields.specs.declared.explained.Begun.{Begun}
use Rattle.balise_fields.specs.declared.explained.Explained.{Explained}
use Rattle.balise_fields.specs.declared.explained.Explained.TheVariants as explained
use Rattle.balise_fields.specs.DigitLines.{IsTelegramLine, packet_digits}

abbrev pub fault : Refusal → Option ℕ → ℕ → FaultDue → DigitFault
fault r packet bit what = record { refusal = r; packet = packet; bit = bit; due = what }

abbrev pub due_of : Due → FaultDue
due_of (due.Field v) = Field v
due_of due.End = End
due_of due.Another = Another

-- ---- digits as a whole

-- how many digits stand before the first byte that isn't one
abbrev pub digits_before : Text → ℕ
digits_before [] = 0
digits_before (c ∷ cs) = if is_some (digit_value c) then 1 + digits_before cs else 0

-- how many zeros stand before the first one
abbrev pub zeros_before : List Bool → ℕ
zeros_before [] = 0
zeros_before (b ∷ bs) = if b then 0 else 1 + zeros_before bs

-- a digit is due: at the first byte that isn't one, or at the end
abbrev pub digit_fault : Text → DigitFault
digit_fault text = fault refusal.BadHex None (4 * digits_before text) Digit

-- another number of bits is due
abbrev pub length_fault : ℕ → DigitFault
length_fault n = fault refusal.BadLength None n Length

-- a zero is due at the first one from a place on
abbrev pub spare_fault : ℕ → List Bool → DigitFault
spare_fault n b = fault refusal.SpareBits None (n + zeros_before (drop n b)) Zero

-- this fault alone
abbrev pub IsDigits : DigitFault → Explained → Type 0
IsDigits f (explained.Digits g) = g ≡ f
IsDigits f x = ⊥

-- ---- a telegram

-- Explained up to the first variable that shows that it isn't a balise's, from track to train.
abbrev pub NotABalise : List Bool → Begun → ℕ → ℕ → Var → Type 0
NotABalise b x n bit v =
    (x.header.items ≡ take n (placed 0 (read_header b))) × (x.packets.items ≡ []) × (x.last.items ≡ []) × (x.fault ≡ fault refusal.NotABalise None bit (Field v))

-- The fault where the packets end: that of a packet, or too few bits for one.
abbrev pub FailsThere : ℕ → List Bool → Stop → Begun → Type 0
FailsThere version b stop x =
    (e : TelegramFault) × (r : Reach) × (stop.fault ≡ Some e) × Tells version (drop stop.at b) stop.at (Some r)
    × (x.last.items ≡ placed stop.at (all_keyed r.fields.items)) × (x.fault ≡ fault (refusal_of e) (Some stop.count) r.at (due_of r.due))

-- The header and the packets up to where they end, and the fault there.
abbrev pub Stops : List Bool → ℕ → Begun → Type 0
Stops b version x =
    (stop : Stop) × (read : List (Tag × Packet)) × IsStop version b stop read × IsLongest version b stop.count
    × (x.header.items ≡ placed 0 (read_header b)) × ArePlaced 50 read x.packets.items × FailsThere version b stop x

-- the fields of 210 or 830 bits that are no telegram's
abbrev pub IsTelegramBegun : List Bool → Begun → Type 0
IsTelegramBegun b x =
    (x.len ≡ length b)
    × (((value QUpdown 0 (read_header b) ≢ 1) × NotABalise b x 0 0 QUpdown)
    ⊎ ((value QUpdown 0 (read_header b) ≡ 1) × (value QMedia 0 (read_header b) ≢ 0) × NotABalise b x 2 8 QMedia)
    ⊎ ((is_balise (read_header b) ≡ true) × Stops b (value MVersion 0 (read_header b)) x))

abbrev pub IsBegun : (Begun → Type 0) → Explained → Type 0
IsBegun P (explained.Begun x) = P x
IsBegun P _ = ⊥

-- what 210 or 830 bits are explained as
abbrev pub IsBits : List Bool → Explained → Type 0
IsBits b (explained.Telegram n t) = (n ≡ length b) × ((y : Telegram) × (read_telegram b ≡ Ok y) × Explains b y t)
IsBits b (explained.Begun x) = ((e : Refusal) × (read_telegram b ≡ Err e)) × IsTelegramBegun b x
IsBits b _ = ⊥

-- what a telegram's digits are explained as
abbrev pub IsTelegram : Text → Explained → Type 0
IsTelegram text x =
    ((b : List Bool) × (read_hex (bits_due (length text)) text ≡ Ok b) × IsBits b x)
    ⊎ ((read_hex (bits_due (length text)) text ≡ Err refusal.BadHex) × IsDigits (digit_fault text) x)
    ⊎ ((read_hex (bits_due (length text)) text ≡ Err refusal.BadLength) × IsDigits (length_fault (4 * length text)) x)
    ⊎ ((read_hex (bits_due (length text)) text ≡ Err refusal.SpareBits) × ((b : List Bool) × (digit_bits text ≡ Some b) × IsDigits (spare_fault (bits_due (length text)) b) x))

-- ---- a packet by itself

-- its fields up to the fault
abbrev pub IsAloneBegun : ℕ → List Bool → Refusal → Explained → Type 0
IsAloneBegun version b e (explained.PacketBegun v fields f) =
    (v ≡ version) × ((r : Reach) × Tells version b 0 (Some r) × (fields.items ≡ placed 0 (all_keyed r.fields.items)) × (f ≡ fault e (Some 0) r.at (due_of r.due)))
IsAloneBegun version b e _ = ⊥

-- the packet that its digits are, as an insert takes them
abbrev pub IsAloneWhole : ℕ → List Bool → Explained → Type 0
IsAloneWhole version b (explained.Packet v x) = (v ≡ version) × ((p : Packet) × (packet_in version b ≡ Ok p) × IsPlaced 0 p x)
IsAloneWhole version b _ = ⊥

-- what the bits of its digits are explained as
abbrev pub IsAlone : ℕ → List Bool → Explained → Type 0
IsAlone version b x =
    IsAloneWhole version b x
    ⊎ ((packet_in version b ≡ Err refusal.BadLength) × IsDigits (length_fault (length b)) x)
    ⊎ ((packet_in version b ≡ Err refusal.SpareBits) × IsDigits (spare_fault (length_said b) b) x)
    ⊎ ((e : Refusal) × (packet_in version b ≡ Err e) × (e ≢ refusal.BadLength) × (e ≢ refusal.SpareBits) × IsAloneBegun version b e x)

-- what its digits are explained as
abbrev pub IsPacket : ℕ → Text → Explained → Type 0
IsPacket version text x =
    ((b : List Bool) × (read_digits text ≡ Ok b) × IsAlone version b x)
    ⊎ ((read_digits text ≡ Err refusal.BadHex) × IsDigits (digit_fault text) x)

-- ---- a line

-- a line of a plan as it is
abbrev pub IsPlan : Text → Explained → Type 0
IsPlan line explained.Plan = line ≡ codes "plan 1"
IsPlan line explained.Group = line ≡ codes "group"
IsPlan line _ = ⊥

-- what a line of digits is explained as
abbrev pub IsExplained : Text → Explained → Type 0
IsExplained line x =
    IsPlan line x
    ⊎ ((version : ℕ) × (text : Text) × (packet_digits line ≡ Some (version, text)) × IsPacket version text x)
    ⊎ (IsTelegramLine line × IsTelegram line x)

-- whether the digits are refused
abbrev pub is_refused : Explained → Bool
is_refused (explained.Begun x) = true
is_refused (explained.PacketBegun version fields f) = true
is_refused (explained.Digits f) = true
is_refused x = false
