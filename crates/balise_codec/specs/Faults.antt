-- A fault of packets, as a spelling that fails has it.
use Rattle.balise_layout.specs.declared.fault.LayoutFault.{LayoutFault}
use Rattle.balise_layout.specs.declared.fault.LayoutFault.TheVariants as layout
use Rattle.balise_codec.specs.declared.fault.SpellFault.{SpellFault}
use Rattle.balise_codec.specs.declared.fault.SpellFault.TheVariants.{TooLong, BitsLeft, OutOfMemory}
use Rattle.balise_codec.specs.declared.fault.SpellFault.TheVariants as spell
use Rattle.balise_codec.specs.declared.misfit.Misfit.{Misfit}
use Rattle.std.specs.Prelude.{ℕ, nat_lt, if◌then◌else◌, Option, Some, None}

abbrev pub of_layout : LayoutFault → SpellFault
of_layout layout.OutOfMemory = OutOfMemory
of_layout _ = BitsLeft

-- the fault of a misfit, if there is one; otherwise the fault by the number of bits
abbrev pub fault_of : Option (ℕ × Misfit) → ℕ → SpellFault
fault_of (Some x) size = spell.Misfit x.0 x.1
fault_of None size = if nat_lt size 8192 then BitsLeft else TooLong
