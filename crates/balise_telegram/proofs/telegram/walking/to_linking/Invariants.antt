use Rattle.std.proofs.Common.{◌-◌, drop}
use Rattle.balise_rules.specs.Telegram.{Telegram}
use Rattle.balise_telegram.specs.Linking.{PassesOver}
use Rattle.balise_telegram.specs.Shown.{IsPlace, IsShown}
use Rattle.balise_telegram.proofs.telegram.walking.to_linking.Given as goal

abbrev pub invariant-packets : goal.invariant-packets
invariant-packets l = (y : Telegram) → IsShown l.bits y → IsPlace y l.fn.from → IsPlace y l.place × PassesOver (drop l.fn.from.index y.packets) (drop l.place.index y.packets)

abbrev pub decreases-packets : goal.decreases-packets
decreases-packets l = 34 - l.place.index
