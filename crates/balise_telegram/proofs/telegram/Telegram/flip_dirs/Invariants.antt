use Rattle.std.proofs.Common.{◌≡◌, ◌-◌, length}
use Rattle.balise_rules.specs.Back.{with_packets}
use Rattle.balise_layout.specs.Setting.{turned}
use Rattle.balise_telegram.specs.Shown.{IsPlace}
use Rattle.balise_telegram.proofs.Turning.{each_to}
use Rattle.balise_telegram.proofs.telegram.Telegram.flip_dirs.Given as goal

abbrev pub invariant-packets : goal.invariant-packets
invariant-packets l = (l.self ≡ with_packets l.initial.self (each_to (λ _ x. turned x) l.place.index l.initial.self.packets)) × IsPlace l.self l.place

abbrev pub decreases-packets : goal.decreases-packets
decreases-packets l = length l.initial.self.packets - l.place.index
