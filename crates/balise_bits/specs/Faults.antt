-- Each fault of bits as the refusal that is printed for it, and each error of the decoder as a fault.
use Rattle.hex.specs.declared.error.FromHexError.{FromHexError}
use Rattle.hex.specs.declared.error.FromHexError.TheVariants as error
use Rattle.balise_rules.specs.declared.refusal.Refusal.{Refusal}
use Rattle.balise_rules.specs.declared.refusal.Refusal.TheVariants as refusal
use Rattle.balise_bits.specs.declared.fault.BitsFault.{BitsFault}
use Rattle.balise_bits.specs.declared.fault.BitsFault.TheVariants.{BadHex, BadLength, SpareBits, OutOfMemory}

abbrev pub refusal_of : BitsFault → Refusal
refusal_of BadHex = refusal.BadHex
refusal_of BadLength = refusal.BadLength
refusal_of SpareBits = refusal.SpareBits
refusal_of OutOfMemory = refusal.OutOfMemory

-- the decoder finds a bad digit or an odd number of digits, or runs out of memory
abbrev pub fault_of : FromHexError → BitsFault
fault_of error.OutOfMemory = OutOfMemory
fault_of _ = BadHex
