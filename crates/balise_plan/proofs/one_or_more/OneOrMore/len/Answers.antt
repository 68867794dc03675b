use Rattle.std.proofs.Common.{length, sym, ap, ◌∙◌}
use Rattle.balise_plan.specs.OneOrMore.{by_tag, is_turned}
use Rattle.balise_plan.proofs.items.Tagged.{length-tagged}
use Rattle.balise_plan.proofs.one_or_more.OneOrMore.len.Goals as goal

pub returns : goal.returns
returns g c = c.len.ensures ∙ sym (length-tagged (by_tag c.self.inside.held) (is_turned c.self.inside.held)) ∙ ap length c.self.view_is
