-- Packets are written one after another, each of them in two parts.
use Rattle.std.proofs.Common.{◌≡◌, ◌<◌, ◌+◌, ◌++◌, ℕ, List, codes, drop, get_or, length, refl}
use Rattle.balise_lines.specs.Writing.{LastFailed}
use Rattle.balise_lines.proofs.PartsWritten.{wrote_none, wrote_more, wrote_some}
use Rattle.balise_codec.specs.declared.explain.PacketFields.{PacketFields}
use Rattle.balise_fields.specs.ExplainedTexts.{in_packet, packet_text, packets_text}
use Rattle.balise_fields.proofs.Sequences.{item_text}
use Rattle.balise_fields.proofs.explained_text.put_packets.Goals as goal

parts : (ps : List PacketFields) (i : ℕ) (x : PacketFields) → i < length ps → x ≡ get_or ps i x → packets_text (drop i ps) ≡ codes "packet\n" ++ (in_packet x ++ packets_text (drop (i + 1) ps))
parts ps i x h e = item_text packet_text ps i x h e

pub loop-packet-init : goal.loop-packet-init
loop-packet-init g c = wrote_none _ _ _

pub returns-in-Err : goal.returns-in-Err
returns-in-Err g c = wrote_some LastFailed _ _ _ _ _ _ _ _ (parts c.args.packets.now c.loop-packet.packet-index c.packet-item.result c.loop-packet-test.true c.packet-item.is) c.loop-packet.invariant c.in-Err.ensures

pub returns-in-Err-put_packet_fields : goal.returns-in-Err-put_packet_fields
returns-in-Err-put_packet_fields g c =
    wrote_some LastFailed _ _ _ (in_packet c.packet-item.result) (packets_text (drop (c.loop-packet.packet-index + 1) c.args.packets.now)) _ _ _ refl
    (wrote_more _ _ _ _ _ _ _ _ (parts c.args.packets.now c.loop-packet.packet-index c.packet-item.result c.loop-packet-test.true c.packet-item.is) c.loop-packet.invariant c.in_default.ensures) c.in-Err-put_packet_fields.ensures

pub loop-packet-preserved : goal.loop-packet-preserved
loop-packet-preserved g c =
    wrote_more _ _ _ (in_packet c.packet-item.result) (packets_text (drop (c.loop-packet.packet-index + 1) c.args.packets.now)) _ _ _ refl
    (wrote_more _ _ _ _ _ _ _ _ (parts c.args.packets.now c.loop-packet.packet-index c.packet-item.result c.loop-packet-test.true c.packet-item.is) c.loop-packet.invariant c.in_default.ensures) c.in_default-put_packet_fields.ensures
