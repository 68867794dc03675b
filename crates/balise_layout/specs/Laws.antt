-- The laws of packets.
use Rattle.std.specs.Prelude.{◌≡◌, ◌<◌, ◌^◌, ◌↔◌, ℕ, ◌++◌, Bool, false, List, Option, is_some, Ok}
use Rattle.balise_rules.specs.declared.variable.Var.{Var}
use Rattle.balise_rules.specs.declared.variable.Var.TheVariants.{NidPacket, LPacket}
use Rattle.balise_rules.specs.Variables.{width_of, steers}
use Rattle.balise_rules.specs.Forms.{Form}
use Rattle.balise_rules.specs.Packets.{is_known}
use Rattle.balise_rules.specs.Packet.{Packet, bits_of, value, width, read_first, Spells, IsSpelt}
use Rattle.balise_rules.specs.Steady.{IsSteady}
use Rattle.balise_layout.specs.Held.{Holds, with_field}
use Rattle.balise_layout.specs.Layouts.{next_by, next_of}

-- Of a layout: only variables that aren't set in place say what follows them.
abbrev pub IsSteadyLayout : Option ℕ → Type 0
IsSteadyLayout own = (n : ℕ) → IsSteady steers (next_of own n)

-- What is written by a layout of this number and form is read, whatever follows, by every version that knows its number or, of a packet kept bit for bit, that doesn't.
abbrev pub WrittenIsRead : Option ℕ → Form → Type 0
WrittenIsRead own form = (version : ℕ) (p : Packet) (after : List Bool) → Holds (next_by own form) (bits_of p) p → is_known version (value NidPacket 0 p.fields) ≡ is_some own → read_first version (bits_of p ++ after) ≡ Ok (p, after)

-- What is written is as long as L_PACKET says.
abbrev pub IsAsLongAsSaid : Option ℕ → Form → Type 0
IsAsLongAsSaid own form = (b : List Bool) (p : Packet) → Holds (next_by own form) b p → value LPacket 0 p.fields ≡ width p

-- Bits encode at most one packet, and a packet has one encoding.
pub record HasOneSpelling (own : Option ℕ) (form : Form) : Type 0 where
  pub one_packet : (b : List Bool) (p q : Packet) → Holds (next_by own form) b p → Holds (next_by own form) b q → p ≡ q
  pub one_spelling : (a b : List Bool) (p : Packet) → Holds (next_by own form) a p → Holds (next_by own form) b p → a ≡ b

-- The bits begin with those of a packet that is well-formed in the version, and these stand after it.
abbrev pub BeginsWith : ℕ → List Bool → Packet → List Bool → Type 0
BeginsWith version b p after = IsSpelt version p × (b ≡ bits_of p ++ after)

-- Reading finds a packet exactly where the bits begin with one that is well-formed.
abbrev pub ReadsWhatIsSpelt : Type 0
ReadsWhatIsSpelt = (version : ℕ) (b : List Bool) (p : Packet) (after : List Bool) → (read_first version b ≡ Ok (p, after)) ↔ BeginsWith version b p after

-- Bits encode at most one packet in a version.
abbrev pub SpellsOnce : Type 0
SpellsOnce = (version : ℕ) (b : List Bool) (p q : Packet) → Spells version b p → Spells version b q → p ≡ q

-- A value that fits, set where a variable may be set, leaves a packet well-formed in the same versions, and as long.
abbrev pub SettingKeeps : Type 0
SettingKeeps = (version : ℕ) (p : Packet) (v : Var) (k n : ℕ) → steers v ≡ false → n < 2 ^ width_of v → IsSpelt version p → IsSpelt version (with_field v k n p) × (width (with_field v k n p) ≡ width p)
