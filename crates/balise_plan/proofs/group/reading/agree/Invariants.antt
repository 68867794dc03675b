use Rattle.std.proofs.Common.{◌≡◌, ◌-◌, length, drop}
use Rattle.balise_rules.specs.Plan.{agree_from}
use Rattle.balise_plan.proofs.group.reading.agree.Given as goal

abbrev pub invariant-loop-i : goal.invariant-loop-i
invariant-loop-i l = agree_from l.id (length l.telegrams - 1) 0 l.telegrams ≡ agree_from l.id (length l.telegrams - 1) l.i (drop l.i l.telegrams)
