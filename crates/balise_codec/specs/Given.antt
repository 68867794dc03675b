-- Values of a packet that may name L_PACKET too, in its place, the third (SUBSET-026, chapter 7).
use Rattle.std.specs.Prelude.{◌≡◌, ◌⊎◌, ◌+◌, ◌∷◌, ℕ, List, Bool, nat_lt, map, Option, Some, None, if◌then◌else◌}
use Rattle.balise_rules.specs.declared.variable.Var.TheVariants.{LPacket}
use Rattle.balise_rules.specs.Tags.{same_var}
use Rattle.balise_rules.specs.Packet.{Packet, width, IsSpelt}
use Rattle.balise_codec.specs.declared.fault.SpellFault.{SpellFault}
use Rattle.balise_codec.specs.declared.fault.SpellFault.TheVariants as spell
use Rattle.balise_codec.specs.Faults.{fault_of}
use Rattle.balise_codec.specs.Misfits.{first_misfit}
use Rattle.balise_codec.specs.Spelling.{Values, said, size_of, SpeltBy}

-- what L_PACKET is said to be
abbrev pub length_given : Values → Option ℕ
length_given (a ∷ b ∷ c ∷ vs) = if same_var c.0 LPacket then Some c.1 else None
length_given _ = None

-- the values without it
abbrev pub but_length : Values → Values
but_length (a ∷ b ∷ c ∷ vs) = if same_var c.0 LPacket then a ∷ b ∷ vs else a ∷ b ∷ c ∷ vs
but_length vs = vs

-- L_PACKET, if it is given, is the packet's length.
abbrev pub LengthIs : Option ℕ → Packet → Type 0
LengthIs None p = Unit {0}
LengthIs (Some l) p = l ≡ width p

-- The packet is one of this version, with these values, L_PACKET named or left out, and with these bits after its fields.
abbrev pub IsGivenBy : ℕ → Values → List Bool → Packet → Type 0
IsGivenBy version vs raw p = SpeltBy version (but_length vs) raw p × LengthIs (length_given vs) p

-- a fault with its place among the values as they are given
abbrev pub placed_fault : Option ℕ → SpellFault → SpellFault
placed_fault None e = e
placed_fault (Some l) (spell.Misfit i m) = spell.Misfit (if nat_lt i 2 then i else i + 1) m
placed_fault (Some l) e = e

-- The values but for L_PACKET are a packet's, which has another length; or they are no packet's, for the first reason.
abbrev pub GivenFails : ℕ → Values → List Bool → SpellFault → Type 0
GivenFails version vs raw e =
    ((p : Packet) × SpeltBy version (but_length vs) raw p × (LengthIs (length_given vs) p → ⊥) × (e ≡ spell.OtherLength (width p)))
    ⊎ (((p : Packet) → SpeltBy version (but_length vs) raw p → ⊥) × (e ≡ placed_fault (length_given vs) (fault_of (first_misfit version (but_length vs)) (size_of (but_length vs) raw))))

-- What is explained of a packet is given by all its values, L_PACKET among them.
abbrev pub AllGiven : Type 0
AllGiven = (version : ℕ) (p : Packet) → IsSpelt version p → IsGivenBy version (map said p.fields) p.rest p
