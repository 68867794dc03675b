use Rattle.std.proofs.Common.{◌≡◌, ◌∙◌, ℕ, ap, subst}
use Rattle.balise_items.specs.Packets.{packet_of, packets_of}
use Rattle.balise_items.specs.Reasons.{Adds, Stops}
use Rattle.balise_items.specs.Telegrams.{version_given}
use Rattle.balise_items.proofs.PartsJoined.{front_added, last_stops, packets_stop}
use Rattle.balise_items.proofs.telegram.add_all.Goals as goal

pub returns-in-Err-add_packets-clause-stop : goal.returns-in-Err-add_packets-clause-stop
returns-in-Err-add_packets-clause-stop c =
    let version : c.version_in-version.result ≡ version_given c.args.head.now.values = c.version_in-version.ensures ∙ ap version_given c.values.ensures in
    let stops = subst (λ (v : ℕ). Stops (packets_of v c.args.packets.now) c.in-Err-add_packets.stop) version c.in-Err-add_packets.ensures.stop in
    packets_stop c.args.head.now c.args.packets.now c.args.last.now c.args.bits.now c.add_header.new.bits c.in-Err-add_packets.stop c.in_default.ensures.ok stops

pub returns-in-Err-add_packet-clause-stop : goal.returns-in-Err-add_packet-clause-stop
returns-in-Err-add_packet-clause-stop c =
    let version : c.version_in-version.result ≡ version_given c.args.head.now.values = c.version_in-version.ensures ∙ ap version_given c.values.ensures in
    let packets = subst (λ (v : ℕ). Adds c.add_header.new.bits c.add_packets.new.bits (packets_of v c.args.packets.now)) version c.in_default-add_packets.ensures.ok in
    let stops = subst (λ (v : ℕ). Stops (packet_of v c.args.last.now) c.in-Err-add_packet.stop) version c.in-Err-add_packet.ensures.stop in
    last_stops c.args.head.now c.args.packets.now c.args.last.now c.args.bits.now c.add_header.new.bits c.add_packets.new.bits c.in-Err-add_packet.stop c.in_default.ensures.ok packets stops

pub returns-clause-ok : goal.returns-clause-ok
returns-clause-ok c =
    let version : c.version_in-version.result ≡ version_given c.args.head.now.values = c.version_in-version.ensures ∙ ap version_given c.values.ensures in
    let packets = subst (λ (v : ℕ). Adds c.add_header.new.bits c.add_packets.new.bits (packets_of v c.args.packets.now)) version c.in_default-add_packets.ensures.ok in
    let last = subst (λ (v : ℕ). Adds c.add_packets.new.bits c.add_packet.new.bits (packet_of v c.args.last.now)) version c.in_default-add_packet.ensures.ok in
    front_added c.args.head.now c.args.packets.now c.args.last.now c.args.bits.now c.add_header.new.bits c.add_packets.new.bits c.add_packet.new.bits c.in_default.ensures.ok packets last
