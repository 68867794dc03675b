use Rattle.balise_rules.specs.Packet.{bits_of}
use Rattle.balise_layout.specs.Kinds.{number_of}
use Rattle.balise_layout.proofs.Nameless.{held_nameless}
use Rattle.balise_layout.proofs.OwnNumber.{number_of_two}
use Rattle.balise_layout.proofs.packet_ref.PacketRef.has_elements.Goals as goal

pub returns-clause-none : goal.returns-clause-none
returns-clause-none c = λ e country. held_nameless country (number_of c.kind-kind.result) (bits_of c.args.self.now) c.args.self.now (c.has_elements.ensures.none e) c.kind-kind.ensures

pub returns-clause-some : goal.returns-clause-some
returns-clause-some c = λ e. number_of_two (number_of c.kind-kind.result) 5 136 (bits_of c.args.self.now) c.args.self.now (c.has_elements.ensures.some e) c.kind-kind.ensures
