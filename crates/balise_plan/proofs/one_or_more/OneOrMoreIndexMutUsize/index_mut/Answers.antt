use Rattle.std.proofs.Common.{◌≡◌, ◌<◌, length, get_or, subst, ap, refl, ◌∙◌, arith}
use Rattle.balise_plan.specs.OneOrMore.{by_tag, is_turned, item_set, tag_at}
use Rattle.balise_plan.proofs.items.Tagged.{item-tagged, length-tagged, set-there}
use Rattle.balise_plan.proofs.one_or_more.OneOrMoreIndexMutUsize.index_mut.Goals as goal

pub turned-tag-requires : goal.turned-tag-requires
turned-tag-requires g c = omega (arith, c.requires, length-tagged (by_tag c.self.inside.held) (is_turned c.self.inside.held), ap length c.self.view_is)

pub returns : goal.returns
returns g c =
    let held = c.self.inside.held in
    let within : c.args.i < length (by_tag held) = omega (arith, c.requires, length-tagged (by_tag held) (is_turned held), ap length c.self.view_is) in (
      (refl {a = c.at_mut.result.ghost_name}, λ w. set-there held c.args.i c.turned-tag.result w within c.turned-tag.ensures.is ∙ ap (λ l. item_set l c.args.i w) c.self.view_is),
      record {
        writes_back = tt;
        value = subst (λ l. (tag_at l c.args.i, c.at_mut.result.now) ≡ get_or l c.args.i (tag_at l c.args.i, c.at_mut.result.now)) c.self.view_is
            (item-tagged (by_tag held) (is_turned held) c.args.i c.turned-tag.result c.at_mut.result.now within c.turned-tag.ensures.is c.at_mut.ensures.value);
      },
    )
