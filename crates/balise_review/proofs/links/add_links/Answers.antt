use Rattle.std.proofs.Common.{◌∙◌, ◌++◌, ap, sym}
use Rattle.std.specs.Ordering.{nat_cmp, is_eq}
use Rattle.balise_review.specs.Reviews.{group_links}
use Rattle.balise_review.proofs.Gathering.{gathered, tells, ascends, from_zero}
use Rattle.balise_review.proofs.Linked.{nothing_elsewhere}
use Rattle.balise_review.proofs.links.add_links.Goals as goal

pub returns-clause-ok : goal.returns-clause-ok
returns-clause-ok c =
    let plan = c.args.plan.now.groups in
    let places = c.in_ok-places.places in
    let done = c.in_ok-add_groups.ensures in
    done.ok ∙ ap (λ l. c.args.found.now.items ++ l)
    (sym (gathered (group_links c.args.g c.args.id) (λ i k. is_eq (nat_cmp i k)) tells plan places.keys (ascends 0 places.keys (from_zero places.keys) done.order)
    (nothing_elsewhere c.args.g c.args.id plan c.requires.sound c.requires.real places c.in_ok-places.ensures.all)))
