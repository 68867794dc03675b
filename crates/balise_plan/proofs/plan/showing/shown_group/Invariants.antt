use Rattle.std.proofs.Common.{◌≡◌, ◌++◌, map, drop}
use Rattle.balise_rules.specs.Telegram.{shown}
use Rattle.balise_plan.proofs.plan.showing.shown_group.Given as goal

abbrev pub invariant-loop-i : goal.invariant-loop-i
invariant-loop-i l = l.telegrams.items ++ map (λ t. shown t.1) (drop l.i l.group) ≡ map (λ t. shown t.1) l.group
