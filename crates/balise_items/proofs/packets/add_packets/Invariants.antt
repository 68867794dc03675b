use Rattle.balise_items.proofs.PartsJoined.{Added}
use Rattle.balise_items.proofs.packets.add_packets.Given as goal

abbrev pub invariant-loop-section : goal.invariant-loop-section
invariant-loop-section l = Added l.version l.sections l.section-index l.fn.bits l.bits
