use Rattle.std.proofs.Common.{◌≡◌, ◌+◌, List, take}
use Rattle.balise_rules.specs.declared.tag.Tag.{Tag}
use Rattle.balise_rules.specs.Packet.{Packet}
use Rattle.balise_rules.specs.Telegram.{used}
use Rattle.balise_codec.specs.Places.{ArePlaced}
use Rattle.balise_codec.specs.Stops.{IsStop}
use Rattle.balise_codec.proofs.explain.packets_to.Given as goal

abbrev pub invariant-loop : goal.invariant-loop
invariant-loop l = (read : List (Tag × Packet)) → IsStop l.version l.bits l.fn.stop read → (l.at + 8 ≡ used (take l.counter read)) × ArePlaced 50 (take l.counter read) l.packets.items
