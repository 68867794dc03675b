use Rattle.std.proofs.Common.{rules, ◌≡◌, ◌⊎◌, [], inl, inr, true, subst}
use Rattle.std.specs.BTreeSet as set
use Rattle.std.specs.Map.{keys_of}
use Rattle.std.specs.Ordering.{nat_cmp}
use Rattle.balise_index.specs.Places.{among}
use Rattle.balise_review.proofs.Linked.{none_among, step_found, step_gone}
use Rattle.balise_review.proofs.links.add_places.Goals as goal

pub loop-link-preserved-in_default : goal.loop-link-preserved-in_default
loop-link-preserved-in_default c w k at h =
    let P = set.contains nat_cmp c.loop-link.places k ≡ true in
    step_gone w k (keys_of c.args.plan.now.groups) c.in-Some.link c.next.new.self P c.in_default.ensures at
    (subst (λ us. (among w us ≡ true) ⊎ P) c.in-Some.ensures.steps (c.loop-link.invariant w k at h))

pub loop-link-preserved : goal.loop-link-preserved
loop-link-preserved c w k at h =
    let g : set.Updates nat_cmp c.loop-link.places c.insert.new.self c.in-Some-place_of.place true = search rules in
    step_found w k c.in-Some-place_of.place (keys_of c.args.plan.now.groups) c.in-Some.link c.next.new.self c.loop-link.places c.insert.new.self c.in-Some-place_of.ensures at g
    (subst (λ us. (among w us ≡ true) ⊎ (set.contains nat_cmp c.loop-link.places k ≡ true)) c.in-Some.ensures.steps (c.loop-link.invariant w k at h))

pub returns-clause-all : goal.returns-clause-all
returns-clause-all c w k at h =
    let none : c.loop-link.link-iterator ≡ [] = search rules in
    elim (c.loop-link.invariant w k at h) [
      | inl e ↦ absurd (none_among w c.loop-link.link-iterator none e)
      | inr m ↦ m
    ]
