use Rattle.balise_rules.proofs.PacketRead.{one_packet}
use Rattle.balise_rules.proofs.laws.one_spelling.Goals as goal

pub returns : goal.returns
returns c = one_packet
