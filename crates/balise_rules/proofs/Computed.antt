-- What the worked rows compute by: to unfold 'computed' is to unfold each of these definitions.
use Rattle.balise_rules.specs.Variables.{width_of, steers, is_free_in_header, is_distance}
use Rattle.balise_rules.specs.Bits.{num, bits}
use Rattle.balise_rules.specs.Digits.{digit_bits, digits_in}
use Rattle.balise_rules.specs.Forms.{spelling, read_form}
use Rattle.balise_rules.specs.Packets.{counted, link, linking, gradient, gradients, difference, section, speeds, level, levels, restriction, revocation, infill, is_known, known_body, body, packet}
use Rattle.balise_rules.specs.Packet.{read_body}
use Rattle.balise_rules.specs.Telegram.{header, read_packets, read_header, read_telegram}
use Rattle.balise_rules.specs.Plan.{read_telegrams, read_group}
use Rattle.balise_rules.specs.Edits.{group_of}
use Rattle.balise_rules.specs.Addresses.{packet_in}

unfoldable pub computed : Type 0
unfolding width_of steers is_free_in_header is_distance num bits digit_bits digits_in spelling read_form counted link linking gradient gradients difference section speeds level levels restriction revocation infill is_known known_body body packet read_body header read_packets read_header read_telegram read_telegrams read_group group_of packet_in
computed = Unit {0}
