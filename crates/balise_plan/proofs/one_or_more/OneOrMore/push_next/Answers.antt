use Rattle.std.proofs.Common.{◌≡◌, ◌∷◌, ◌++◌, [], ap, sym, subst, ◌∙◌, rules}
use Rattle.std.specs.List.{enumerate_from}
use Rattle.balise_plan.specs.OneOrMore.{items_held, tagged, AreInOrder}
use Rattle.balise_plan.proofs.items.Tagged.{push-tagged, unturned}
use Rattle.balise_plan.proofs.one_or_more.OneOrMore.push_next.Goals as goal

pub returns-in-Listed-clause-ok : goal.returns-in-Listed-clause-ok
returns-in-Listed-clause-ok g c =
    let list = c.in-Listed.list in
    let items : c.push.new.self.items ≡ list.items ++ c.args.item ∷ [] = search rules in
    let held : c.args.self.now ≡ tagged list.items c.in-Listed.turned = sym c.self.view_is ∙ ap items_held c.in-Listed.is in
    ap (enumerate_from 0) items ∙ push-tagged list.items c.args.item c.args.self.now (held ∙ unturned list.items c.in-Listed.turned (subst AreInOrder held c.requires))
