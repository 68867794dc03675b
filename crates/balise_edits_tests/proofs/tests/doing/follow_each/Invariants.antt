use Rattle.std.proofs.Common.{◌≤◌, ℕ}
use Rattle.balise_rules.specs.Accepting.{Unused}
use Rattle.balise_edits_tests.proofs.tests.doing.follow_each.Given as goal

abbrev pub invariant-loop-step : goal.invariant-loop-step
invariant-loop-step g l = (n : ℕ) → l.serial ≤ n → Unused n l.plan.groups
