use Rattle.std.proofs.Common.{◌≡◌, length, get_or, subst, ap, arith}
use Rattle.balise_plan.specs.OneOrMore.{by_tag, is_turned, tag_at}
use Rattle.balise_plan.proofs.items.Tagged.{item-tagged, length-tagged}
use Rattle.balise_plan.proofs.one_or_more.OneOrMoreIndexUsize.index.Goals as goal

pub turned-requires : goal.turned-requires
turned-requires g c = omega (arith, c.requires, length-tagged (by_tag c.self.inside.held) (is_turned c.self.inside.held), ap length c.self.view_is)

pub returns : goal.returns
returns g c =
    let size = length-tagged (by_tag c.self.inside.held) (is_turned c.self.inside.held) in
    subst (λ l. (tag_at l c.args.i, c.at.result.now) ≡ get_or l c.args.i (tag_at l c.args.i, c.at.result.now)) c.self.view_is
    (item-tagged (by_tag c.self.inside.held) (is_turned c.self.inside.held) c.args.i c.turned.result c.at.result.now (omega (arith, c.requires, size, ap length c.self.view_is)) c.turned.ensures.is c.at.ensures)
