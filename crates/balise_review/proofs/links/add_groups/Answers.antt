use Rattle.std.proofs.Common.{sym}
use Rattle.balise_rules.proofs.Found.{group_sound}
use Rattle.balise_rules.proofs.Tests.{tag_test}
use Rattle.balise_plan.proofs.GroupLists.{found_at}
use Rattle.balise_review.proofs.links.add_groups.Goals as goal

pub add_group-requires : goal.add_group-requires
add_group-requires c =
    let plan = c.args.plan.now.groups in
    let g = c.in-Some-at.tag in
    let ys = c.in-Some-at.group.now in
    let sound = c.requires in
    group_sound plan sound g ys (found_at tag_test plan c.in-Some.place.now g ys sound.tags (sym c.in-Some-at.ensures))
