use Rattle.std.proofs.Common.{◌≡◌, ◌++◌, drop, reverse}
use Rattle.balise_rules.specs.Plan.{identity_of}
use Rattle.balise_review.specs.Reviews.{telegram_lines}
use Rattle.balise_review.proofs.distances.add_distances.Given as goal

abbrev pub invariant-loop-pig : goal.invariant-loop-pig
invariant-loop-pig l = l.found.items ++ telegram_lines (identity_of l.group) l.pig (drop l.pig (reverse l.group)) ≡ l.initial.found.items ++ telegram_lines (identity_of l.group) 0 (reverse l.group)
