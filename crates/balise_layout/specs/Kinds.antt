-- The number of each kind of packet; those that are kept bit for bit have none of their own.
use Rattle.std.specs.Prelude.{◌≡◌, ◌≤◌, ◌-◌, ℕ, Bool, List, length, drop, Option, Some, None, Result, Ok, Err}
use Rattle.balise_rules.specs.Bits.{part}
use Rattle.balise_rules.specs.Packet.{read_first}
use Rattle.balise_layout.specs.declared.fault.LayoutFault.{LayoutFault}
use Rattle.balise_layout.specs.Faults.{refusal_of}
use Rattle.balise_layout.specs.Held.{held, IsHeld}
use Rattle.balise_layout.specs.Layouts.{next_of}
use Rattle.balise_layout.specs.declared.kind.PacketKind.{PacketKind}
use Rattle.balise_layout.specs.declared.kind.PacketKind.TheVariants.{Linking, GradientProfile, SpeedProfile, LevelTransition, SpeedRestriction, Revocation, InfillLocation, Opaque}

abbrev pub number_of : PacketKind → Option ℕ
number_of Linking = Some 5
number_of GradientProfile = Some 21
number_of SpeedProfile = Some 27
number_of LevelTransition = Some 41
number_of SpeedRestriction = Some 65
number_of Revocation = Some 66
number_of InfillLocation = Some 136
number_of Opaque = None

-- a packet of this kind stands at the place, up to the place after it, and is read there; or the first fault
abbrev pub Finds : ℕ → List Bool → ℕ → Result (PacketKind × ℕ) LayoutFault → Type 0
Finds version b at (Ok r) = (at ≤ r.1) × (r.1 ≤ length b) × IsHeld (next_of (number_of r.0)) (part at (r.1 - at) b)
    × (read_first version (drop at b) ≡ Ok (held (next_of (number_of r.0)) (part at (r.1 - at) b), drop r.1 b))
Finds version b at (Err e) = read_first version (drop at b) ≡ Err (refusal_of e)
