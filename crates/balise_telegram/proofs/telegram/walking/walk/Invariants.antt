use Rattle.std.proofs.Common.{◌-◌}
use Rattle.balise_telegram.proofs.Walking.{Walked}
use Rattle.balise_telegram.proofs.telegram.walking.walk.Given as goal

abbrev pub invariant-packets : goal.invariant-packets
invariant-packets l = Walked l.bits l.most l.count l.at

abbrev pub decreases-packets : goal.decreases-packets
decreases-packets l = l.most - l.count
