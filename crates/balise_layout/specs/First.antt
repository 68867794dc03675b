-- The packet at the front of bits: its number and its length, and what reading answers.
use Rattle.std.specs.Prelude.{◌≡◌, ◌≢◌, ◌≤◌, ◌+◌, ℕ, ◌==◌, Bool, false, List, length, take, drop, Result, Ok, Err}
use Rattle.balise_rules.specs.Bits.{num}
use Rattle.balise_rules.specs.Packet.{Packet, IsSpelt, length_said, read_first, width}
use Rattle.balise_layout.specs.declared.fault.LayoutFault.{LayoutFault}
use Rattle.balise_layout.specs.declared.fault.LayoutFault.TheVariants.{OutOfMemory}
use Rattle.balise_layout.specs.Faults.{refusal_of}

-- The bits begin with a packet's number and length, and have that length.
pub record Bounded (b : List Bool) (number size : ℕ) : Type 0 where
  pub has_number : num (take 8 b) ≡ number
  pub not_zero : (number == 0) ≡ false
  pub not_end : (number == 255) ≡ false
  pub has_size : length_said b ≡ size
  pub least : 23 ≤ size
  pub within : size ≤ length b

-- what is read from a place on: the packet and the place after it, or the first fault, unless memory runs out
abbrev pub ReadsFirst : ℕ → List Bool → ℕ → Result (Packet × ℕ) LayoutFault → Type 0
ReadsFirst version b at (Ok r) = read_first version (drop at b) ≡ Ok (r.0, drop r.1 b)
ReadsFirst version b at (Err e) = e ≢ OutOfMemory → read_first version (drop at b) ≡ Err (refusal_of e)

-- a packet stands at the place and would be read, or the first fault
abbrev pub StandsAt : ℕ → List Bool → ℕ → Result ℕ LayoutFault → Type 0
StandsAt version b at (Ok end) = (p : Packet) × (read_first version (drop at b) ≡ Ok (p, drop end b)) × IsSpelt version p × (at + width p ≡ end) × (end ≤ length b)
StandsAt version b at (Err e) = read_first version (drop at b) ≡ Err (refusal_of e)

-- the packet that was read is of the version, and the place after it is as far as the packet is long
abbrev pub LiesAt : ℕ → List Bool → ℕ → Result (Packet × ℕ) LayoutFault → Type 0
LiesAt version b at (Ok r) = IsSpelt version r.0 × (at + width r.0 ≡ r.1) × (r.1 ≤ length b)
LiesAt version b at (Err e) = Unit {0}
