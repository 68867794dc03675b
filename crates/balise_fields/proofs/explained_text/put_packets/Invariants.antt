use Rattle.std.proofs.Common.{drop}
use Rattle.balise_lines.proofs.PartsWritten.{Wrote}
use Rattle.balise_fields.specs.ExplainedTexts.{packets_text}
use Rattle.balise_fields.proofs.explained_text.put_packets.Given as goal

abbrev pub invariant-loop-packet : goal.invariant-loop-packet
invariant-loop-packet g l = Wrote g.W.Write.contents (packets_text l.packets) (packets_text (drop l.packet-index l.packets)) l.fn.writer l.writer
