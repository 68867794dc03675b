use Rattle.std.proofs.Common.{◌≡◌, ◌++◌, List, take}
use Rattle.balise_rules.specs.declared.tag.Tag.{Tag}
use Rattle.balise_rules.specs.Packet.{Packet}
use Rattle.balise_rules.specs.Telegram.{TaggedFrom, packets_bits}
use Rattle.balise_codec.specs.Telegrams.{AreSpelt}
use Rattle.balise_codec.proofs.telegram.add_packets.Given as goal

abbrev pub invariant-loop-i : goal.invariant-loop-i
invariant-loop-i l = (ps : List (Tag × Packet)) × AreSpelt l.version (take l.i l.packets) ps × TaggedFrom 0 ps × (l.bits ≡ l.fn.bits ++ packets_bits ps)
