use Rattle.std.proofs.Common.{◌≡◌, ◌++◌, ◌+◌, All, length}
use Rattle.balise_rules.specs.Forms.{Numbered}
use Rattle.balise_rules.specs.Plan.{country_of}
use Rattle.balise_review.specs.Reviews.{packet_links}
use Rattle.balise_review.proofs.links.add_telegram.Given as goal

abbrev pub invariant-loop-packet : goal.invariant-loop-packet
invariant-loop-packet l = record {
  lines : l.found.items ++ packet_links l.id l.own (country_of l.telegram) l.pig l.pkt l.packet-iterator ≡ l.initial.found.items ++ packet_links l.id l.own (country_of l.telegram) l.pig 0 l.telegram.packets;
  many : l.pkt + length l.packet-iterator ≡ length l.telegram.packets;
  numbered : All (λ p. Numbered p.1.fields) l.packet-iterator;
}
