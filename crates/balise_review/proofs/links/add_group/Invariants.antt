use Rattle.std.proofs.Common.{◌≡◌, ◌++◌, cond, drop, reverse}
use Rattle.balise_rules.specs.Plan.{identity_of}
use Rattle.balise_review.specs.Reviews.{telegram_links}
use Rattle.balise_review.proofs.links.add_group.Given as goal

abbrev pub invariant-loop-pig : goal.invariant-loop-pig
invariant-loop-pig l = l.found.items ++ telegram_links l.id (identity_of l.group) l.pig (drop l.pig (cond l.turned (reverse l.group) l.group)) ≡ l.initial.found.items ++ telegram_links l.id (identity_of l.group) 0 (cond l.turned (reverse l.group) l.group)
