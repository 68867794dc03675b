use Rattle.std.proofs.Common.{arith}
use Rattle.balise_layout.proofs.Lent.{read_there}
use Rattle.balise_layout.proofs.packet_ref.PacketRef.new.Goals as goal

pub number-head-requires-clause-within : goal.number-head-requires-clause-within
number-head-requires-clause-within c =
    let r = read_there c.args.version c.args.at c.args.bits.now c.requires.0 c.requires.1 c.requires.2 in
    omega (arith, r.within, r.least)
