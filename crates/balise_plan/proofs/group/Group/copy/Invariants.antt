use Rattle.std.proofs.Common.{◌≡◌, take}
use Rattle.std.specs.List.{enumerate_from}
use Rattle.balise_plan.proofs.group.Group.copy.Given as goal

abbrev pub invariant-loop-telegram : goal.invariant-loop-telegram
invariant-loop-telegram l = l.copies ≡ enumerate_from 0 (take l.telegram-index l.telegrams)
