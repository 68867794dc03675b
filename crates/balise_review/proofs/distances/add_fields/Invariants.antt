use Rattle.std.proofs.Common.{◌≡◌, ◌++◌, drop}
use Rattle.balise_rules.specs.Review.{lines_at}
use Rattle.balise_layout.specs.Collected.{all_keyed}
use Rattle.balise_review.specs.Reviews.{distances}
use Rattle.balise_review.proofs.distances.add_fields.Given as goal

abbrev pub invariant-loop-i : goal.invariant-loop-i
invariant-loop-i l = l.found.items ++ lines_at l.id l.pig l.pkt (distances (all_keyed (drop l.i l.fields.items))) ≡ l.initial.found.items ++ lines_at l.id l.pig l.pkt (distances (all_keyed l.fields.items))
