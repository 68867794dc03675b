use Rattle.balise_rules.specs.Telegram.{version_of}
use Rattle.balise_view.specs.Given.{packet_data}
use Rattle.balise_view.proofs.Sent.{SentUpTo}
use Rattle.balise_view.proofs.telegram.send_packets.Given as goal

abbrev pub invariant-loop-packet : goal.invariant-loop-packet
invariant-loop-packet g l = SentUpTo (λ p. packet_data (version_of l.telegram) p.1) l.telegram.packets l.packet-iterator (g.S.Serializer.written l.initial.out) (g.S.Serializer.written l.out)
