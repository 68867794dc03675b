use Rattle.std.proofs.Common.{◌≡◌, ◌++◌, ◌+◌, length}
use Rattle.balise_rules.specs.Telegram.{version_of}
use Rattle.balise_review.specs.Reviews.{packet_lines}
use Rattle.balise_review.proofs.distances.add_telegram.Given as goal

abbrev pub invariant-loop-packet : goal.invariant-loop-packet
invariant-loop-packet l = record {
  lines : l.found.items ++ packet_lines l.id (version_of l.telegram) l.pig l.pkt l.packet-iterator ≡ l.initial.found.items ++ packet_lines l.id (version_of l.telegram) l.pig 0 l.telegram.packets;
  many : l.pkt + length l.packet-iterator ≡ length l.telegram.packets;
}
