use Rattle.std.proofs.Common.{◌≡◌, ◌+◌, length}
use Rattle.balise_lines.proofs.PartsWritten.{Wrote}
use Rattle.balise_facts.specs.TagTexts.{packet_lines}
use Rattle.balise_facts.proofs.tags.put_packets.Given as goal

abbrev pub invariant-loop-tag : goal.invariant-loop-tag
invariant-loop-tag g l = record {
  wrote : Wrote g.W.Write.contents (packet_lines l.id l.pig 0 l.telegram.packets)
      (packet_lines l.id l.pig l.pkt l.tag-iterator) l.fn.writer l.writer;
  left : l.pkt + length l.tag-iterator ≡ length l.telegram.packets;
}
