use Rattle.std.proofs.Common.{rules}
use Rattle.balise_layout.proofs.packet.Packet.write.Goals as goal

pub returns-clause-ok : goal.returns-clause-ok
returns-clause-ok c = search rules
