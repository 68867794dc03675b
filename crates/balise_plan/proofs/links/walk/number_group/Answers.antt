use Rattle.std.proofs.Common.{sym, ◌∙◌, ◌≡◌, None, Some}
use Rattle.balise_rules.specs.Tagged.{find}
use Rattle.balise_rules.specs.Tags.{same_tag}
use Rattle.balise_rules.proofs.Tests.{tag_test}
use Rattle.balise_rules.proofs.Each.{each-absent}
use Rattle.balise_plan.specs.Walks.{with_number}
use Rattle.balise_plan.proofs.items.Places.{value-each}
use Rattle.balise_plan.proofs.links.walk.number_group.Goals as goal

pub returns-in_default : goal.returns-in_default
returns-in_default c =
    let n : None ≡ find same_tag c.args.g c.args.groups.now.entries = c.in_default.ensures.value in
    rw c.get_mut.follows.holds-at-none (sym (each-absent same_tag c.args.g (with_number c.args.number) c.args.groups.now.entries (sym n)))

pub returns : goal.returns
returns c =
    let n : Some c.in-Some.group.now ≡ find same_tag c.args.g c.args.groups.now.entries = c.in-Some.ensures.value in
    c.get_mut.follows.holds c.put_number.new.self ∙ value-each tag_test c.args.g (with_number c.args.number) c.args.groups.now.entries c.in-Some.group.now c.put_number.new.self c.requires.tags (sym n) c.put_number.ensures
