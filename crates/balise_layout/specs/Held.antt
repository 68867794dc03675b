-- A packet as its bits hold it.
use Rattle.std.specs.Prelude.{◌≡◌, ℕ, ◌+◌, List, [], ◌∷◌, Bool, cond, length, Option, Some, None}
use Rattle.balise_rules.specs.declared.variable.Var.{Var}
use Rattle.balise_rules.specs.declared.variable.Var.TheVariants.{NidPacket, QDir, LPacket}
use Rattle.balise_rules.specs.Variables.{width_of}
use Rattle.balise_rules.specs.Tags.{Key, same_key}
use Rattle.balise_rules.specs.Forms.{Form, valued, plain, Fields, Matches, Numbered, read_form}
use Rattle.balise_rules.specs.Packet.{Packet, value, with_value, bits_of}

-- the first three fields, and what follows them as the number says
abbrev pub headed : (ℕ → Form) → Form
headed next = valued NidPacket (λ n. plain QDir (plain LPacket (next n)))

-- The bits are one packet of this form; L_PACKET is their number.
pub record Holds (next : ℕ → Form) (b : List Bool) (p : Packet) : Type 0 where
  pub spelt : b ≡ bits_of p
  pub form : Matches (headed next) p.fields p.rest
  pub numbered : Numbered p.fields
  pub said : value LPacket 0 p.fields ≡ length b

abbrev pub packet_or_none : Option (Fields × List Bool) → Packet
packet_or_none None = record { fields = []; rest = [] }
packet_or_none (Some r) = record { fields = r.0; rest = r.1 }

-- the packet that the bits hold
unfoldable pub held : (ℕ → Form) → List Bool → Packet
held next b = packet_or_none (read_form (headed next) [] b)

-- The bits are a packet of this form.
abbrev pub IsHeld : (ℕ → Form) → List Bool → Type 0
IsHeld next b = Holds next b (held next b)

-- the packet with another value of one of its fields
abbrev pub with_field : Var → ℕ → ℕ → Packet → Packet
with_field v k n p = record { fields = with_value v k n p.fields; rest = p.rest }

-- with w bits more before it
abbrev pub further : ℕ → Option ℕ → Option ℕ
further w None = None
further w (Some n) = Some (w + n)

-- how many bits stand before a field
abbrev pub before : Key → Fields → Option ℕ
before key [] = None
before key (f ∷ fs) = cond (same_key key f.0) (Some 0) (further (width_of f.0.0) (before key fs))
