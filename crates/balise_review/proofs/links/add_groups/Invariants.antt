use Rattle.std.proofs.Common.{◌≡◌, ◌++◌}
use Rattle.std.specs.Prelude.{flat_map}
use Rattle.balise_review.specs.Reviews.{links_of}
use Rattle.balise_review.proofs.links.add_groups.Given as goal

abbrev pub invariant-loop-place : goal.invariant-loop-place
invariant-loop-place l = l.found.items ++ flat_map (links_of l.g l.id l.plan.groups) l.place-iterator ≡ l.initial.found.items ++ flat_map (links_of l.g l.id l.plan.groups) l.places.keys
