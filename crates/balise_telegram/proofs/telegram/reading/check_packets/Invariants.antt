use Rattle.std.proofs.Common.{◌≡◌, length, ◌-◌}
use Rattle.balise_telegram.specs.Linking.{AreNamed}
use Rattle.balise_telegram.proofs.PacketsRead.{SomeStand}
use Rattle.balise_telegram.proofs.telegram.reading.check_packets.Given as goal

abbrev pub invariant-packets : goal.invariant-packets
invariant-packets l = (s : SomeStand l.bits l.version l.at) × (l.count ≡ length s.0) × AreNamed l.names l.country s.0

abbrev pub decreases-packets : goal.decreases-packets
decreases-packets l = length l.bits - l.at
