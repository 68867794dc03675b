use Rattle.std.proofs.Common.{◌≡◌, ◌++◌, drop}
use Rattle.balise_rules.specs.Review.{lines_at}
use Rattle.balise_review.specs.Reviews.{named_from}
use Rattle.balise_review.proofs.links.add_named.Given as goal

abbrev pub invariant-loop-k : goal.invariant-loop-k
invariant-loop-k l = l.found.items ++ lines_at l.own l.pig l.pkt (named_from l.id l.packet.fields l.k (drop l.k l.links)) ≡ l.initial.found.items ++ lines_at l.own l.pig l.pkt (named_from l.id l.packet.fields 0 l.links)
