use Rattle.std.proofs.Common.{◌≡◌, ◌⊎◌, ℕ, true, Some, position}
use Rattle.std.specs.BTreeSet as set
use Rattle.std.specs.Map.{keys_of}
use Rattle.std.specs.Ordering.{nat_cmp}
use Rattle.balise_rules.specs.Tags.{same_tag}
use Rattle.balise_index.specs.Places.{among}
use Rattle.balise_index.specs.declared.link_place.LinkPlace.{LinkPlace}
use Rattle.balise_review.proofs.links.add_places.Given as goal

-- the place of each link's group is among the places, or the link is still to come
abbrev pub invariant-loop-link : goal.invariant-loop-link
invariant-loop-link l = (w : LinkPlace) (k : ℕ) → position (same_tag w.group) (keys_of l.fn.plan.groups) ≡ Some k → among w l.links.keys ≡ true → (among w l.link-iterator ≡ true) ⊎ (set.contains nat_cmp l.places k ≡ true)
