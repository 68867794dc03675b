use Rattle.std.proofs.Common.{sym, subst, ◌∙◌, ◌≡◌, None, Some}
use Rattle.balise_rules.specs.Tagged.{find, Distinct}
use Rattle.balise_rules.specs.Tags.{same_tag}
use Rattle.balise_rules.proofs.Tests.{tag_test}
use Rattle.balise_rules.proofs.Each.{each-absent}
use Rattle.balise_plan.specs.Walks.{in_group, changed, change_at}
use Rattle.balise_plan.proofs.items.Places.{value-each}
use Rattle.balise_plan.proofs.naming.Walking.{distinct-change}
use Rattle.balise_plan.proofs.links.walk.change_one.Goals as goal
use Rattle.balise_plan.proofs.links.walk.change_one.Goals.{After-change_link}

pub returns-in_default-clause-changed : goal.returns-in_default-clause-changed
returns-in_default-clause-changed c =
    let w = c.args.place.now in
    let n : None ≡ find same_tag w.group c.args.groups.now.entries = c.in_default.ensures.value in
    rw c.get_mut.follows.holds-at-none (sym (each-absent same_tag w.group (in_group w.telegram w.packet (changed c.args.change w.element)) c.args.groups.now.entries (sym n)))

changes : (c : After-change_link) → (c.get_mut.follows.lender c.change_link.new.self).entries ≡ change_at c.args.change c.args.place.now c.args.groups.now.entries
changes c =
    let w = c.args.place.now in
    let n : Some c.in-Some.group.now ≡ find same_tag w.group c.args.groups.now.entries = c.in-Some.ensures.value in
    c.get_mut.follows.holds c.change_link.new.self ∙ value-each tag_test w.group (in_group w.telegram w.packet (changed c.args.change w.element)) c.args.groups.now.entries c.in-Some.group.now c.change_link.new.self c.requires.tags (sym n) c.change_link.ensures

pub returns-clause-changed : goal.returns-clause-changed
returns-clause-changed c = changes (goal.at.returns-clause-changed c).After-change_link

pub returns-clause-tags : goal.returns-clause-tags
returns-clause-tags c = subst (λ gs. Distinct same_tag gs) (sym (changes (goal.at.returns-clause-tags c).After-change_link)) (distinct-change c.args.change c.args.place.now c.args.groups.now.entries c.requires.tags)
