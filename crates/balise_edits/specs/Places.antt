-- The places of this crate as those of the rules, which are lists of parts.
use Rattle.std.specs.Prelude.{[], ◌∷◌}
use Rattle.balise_rules.specs.Paths as rules
use Rattle.balise_edits.specs.declared.path.Path.{Path}
use Rattle.balise_edits.specs.declared.path.Path.TheVariants as path
use Rattle.balise_edits.specs.declared.path.InGroup.{InGroup}
use Rattle.balise_edits.specs.declared.path.InGroup.TheVariants as group
use Rattle.balise_edits.specs.declared.path.InTelegram.{InTelegram}
use Rattle.balise_edits.specs.declared.path.InTelegram.TheVariants as telegram
use Rattle.balise_edits.specs.declared.path.InPacket.{InPacket}
use Rattle.balise_edits.specs.declared.path.InPacket.TheVariants as packet

abbrev pub in_packet : InPacket → rules.Path
in_packet packet.Whole = []
in_packet packet.After = rules.After ∷ []
in_packet packet.Front = rules.Front ∷ []
in_packet (packet.Field v k) = rules.Of v ∷ rules.Nth k ∷ []

abbrev pub in_telegram : InTelegram → rules.Path
in_telegram (telegram.Head v) = rules.Head ∷ rules.Of v ∷ []
in_telegram telegram.First = rules.Start ∷ rules.After ∷ []
in_telegram telegram.Last = rules.End ∷ rules.Front ∷ []
in_telegram (telegram.Packet p r) = rules.At p ∷ in_packet r

abbrev pub in_group : InGroup → rules.Path
in_group group.Whole = []
in_group group.After = rules.After ∷ []
in_group group.Front = rules.Front ∷ []
in_group group.Turn = rules.Turn ∷ []
in_group group.Name = rules.Name ∷ []
in_group (group.Telegram t r) = rules.Nth t ∷ in_telegram r

abbrev pub path_of : Path → rules.Path
path_of (path.Group g r) = rules.At g ∷ in_group r
path_of path.First = rules.Start ∷ rules.After ∷ []
path_of path.Last = rules.End ∷ rules.Front ∷ []
path_of (path.Identity i) = rules.Whose i ∷ []
