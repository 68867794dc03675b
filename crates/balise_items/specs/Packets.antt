-- The bits of packets as they are given, or the first reason why there are none.
use Rattle.std.specs.Prelude.{◌≡◌, ◌+◌, ◌==◌, ◌&&◌, ℕ, nat_lt, Bool, true, false, not, List, [], ◌∷◌, length, Option, Some, None, Result, Ok, Err, if◌then◌else◌}
use Rattle.balise_rules.specs.Packets.{is_known}
use Rattle.balise_codec.specs.declared.misfit.Misfit.{Misfit}
use Rattle.balise_codec.specs.declared.fault.SpellFault.{SpellFault}
use Rattle.balise_codec.specs.declared.fault.SpellFault.TheVariants as spell
use Rattle.balise_codec.specs.Given.{but_length, length_given}
use Rattle.balise_codec.specs.Misfits.{first_misfit, front_value}
use Rattle.balise_codec.specs.Spelling.{Values, size_of, written}
use Rattle.balise_items.specs.declared.reason.Bad.{Bad}
use Rattle.balise_items.specs.declared.reason.Reason.TheVariants.{TooLong, BitsLeft, OtherLength}
use Rattle.balise_items.specs.declared.reason.Stop.{Stop}
use Rattle.balise_items.specs.declared.reason.Stop.TheVariants as stop
use Rattle.balise_items.specs.Reasons.{bad, joined, line_of, reason_of}
use Rattle.balise_items.specs.Sections.{Given}

-- the place of a value among all of them, by its place among those but for L_PACKET
abbrev pub given_place : Option ℕ → ℕ → ℕ
given_place None i = i
given_place (Some l) i = if nat_lt i 2 then i else i + 1

-- L_PACKET, if it is given, is the length
abbrev pub is_length : Option ℕ → ℕ → Bool
is_length None n = true
is_length (Some l) n = l == n

abbrev pub are_some : List Bool → Bool
are_some [] = false
are_some (b ∷ bs) = true

-- bits stand after the fields of a known packet
abbrev pub are_left : ℕ → Values → List Bool → Bool
are_left version vs rest = is_known version (front_value vs) && are_some rest

-- the bits of values that fit: n bits with L_PACKET
abbrev pub bits_sized : ℕ → Given → Values → ℕ → Result (List Bool) Bad
bits_sized version s vs n =
    if not (nat_lt n 8192) then Err (bad s.line TooLong)
    else if are_left version vs s.rest then Err (bad (line_of s (length s.values)) BitsLeft)
    else if is_length (length_given s.values) n then Ok (written vs s.rest n)
    else Err (bad s.line (OtherLength n))

-- the bits of values but for L_PACKET, or the first of them that doesn't fit
abbrev pub bits_fitting : ℕ → Given → Values → Option (ℕ × Misfit) → Result (List Bool) Bad
bits_fitting version s vs None = bits_sized version s vs (size_of vs s.rest)
bits_fitting version s vs (Some x) = Err (bad (line_of s (given_place (length_given s.values) x.0)) (reason_of x.1))

-- the bits of a packet of this version, or the first reason why there are none
abbrev pub packet_of : ℕ → Given → Result (List Bool) Bad
packet_of version s = bits_fitting version s (but_length s.values) (first_misfit version (but_length s.values))

-- the same of packets, one after another
abbrev pub packets_of : ℕ → List Given → Result (List Bool) Bad
packets_of version [] = Ok []
packets_of version (s ∷ ss) = joined (packet_of version s) (packets_of version ss)

-- where a packet is refused for a fault, and why; or memory ran out
abbrev pub IsBadPacket : Given → SpellFault → Stop → Type 0
IsBadPacket s (spell.Misfit i m) e = e ≡ stop.Bad (bad (line_of s i) (reason_of m))
IsBadPacket s spell.TooLong e = e ≡ stop.Bad (bad s.line TooLong)
IsBadPacket s spell.BitsLeft e = e ≡ stop.Bad (bad (line_of s (length s.values)) BitsLeft)
IsBadPacket s (spell.OtherLength n) e = e ≡ stop.Bad (bad s.line (OtherLength n))
IsBadPacket s spell.OutOfMemory e = e ≡ stop.OutOfMemory
