-- What is written of a packet whose number and fields are known.
use Rattle.std.proofs.Common.{◌≡◌, ℕ, refl}
use Rattle.balise_rules.specs.declared.variable.Var.TheVariants.{NidPacket}
use Rattle.balise_rules.specs.Forms.{Fields}
use Rattle.balise_rules.specs.Packet.{Packet, value}
use Rattle.balise_rules.specs.Packets.{is_known}
use Rattle.balise_view.specs.Given.{fields_data, packet_data}

pub found_data : (version n number : ℕ) (fs : Fields) (p : Packet) → version ≡ n → number ≡ value NidPacket 0 p.fields → fs ≡ p.fields → fields_data (is_known version number) fs ≡ packet_data n p
found_data version n number fs p e f h = rw (e, f, h) refl
