-- Each fault of packets as the refusal that is printed for it.
use Rattle.balise_rules.specs.declared.refusal.Refusal.{Refusal}
use Rattle.balise_rules.specs.declared.refusal.Refusal.TheVariants as refusal
use Rattle.balise_layout.specs.declared.fault.LayoutFault.{LayoutFault}
use Rattle.balise_layout.specs.declared.fault.LayoutFault.TheVariants.{PacketCut, LayoutMismatch, PacketZero, NoSuchVariable, Steering, ValueTooWide, OutOfMemory}

abbrev pub refusal_of : LayoutFault → Refusal
refusal_of PacketCut = refusal.PacketCut
refusal_of LayoutMismatch = refusal.LayoutMismatch
refusal_of PacketZero = refusal.PacketZero
refusal_of NoSuchVariable = refusal.NoSuchVariable
refusal_of Steering = refusal.Steering
refusal_of ValueTooWide = refusal.ValueTooWide
refusal_of OutOfMemory = refusal.OutOfMemory
