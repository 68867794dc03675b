use Rattle.std.proofs.Common.{length, slice_get, ap, ◌∙◌, arith}
use Rattle.balise_plan.specs.OneOrMore.{by_tag, is_turned}
use Rattle.balise_plan.proofs.items.Tagged.{get-past, get-tagged, length-tagged}
use Rattle.balise_plan.proofs.one_or_more.OneOrMore.get.Goals as goal

pub returns-then-i-len : goal.returns-then-i-len
returns-then-i-len g c = get-past (by_tag c.self.inside.held) (is_turned c.self.inside.held) c.args.i (omega (arith, c.len.ensures, c.if-i-len.true)) ∙ ap (λ l. slice_get l c.args.i) c.self.view_is

pub overflow_cast-result : goal.overflow_cast-result
overflow_cast-result g c = omega (arith, c.requires, c.turned-tag.ensures.within, length-tagged (by_tag c.self.inside.held) (is_turned c.self.inside.held), ap length c.self.view_is)

pub returns : goal.returns
returns g c =
    get-tagged (by_tag c.self.inside.held) (is_turned c.self.inside.held) c.args.i c.turned-tag.result c.at.result.now (omega (arith, c.len.ensures, c.if-i-len.false)) c.turned-tag.ensures.is c.at.ensures
    ∙ ap (λ l. slice_get l c.args.i) c.self.view_is
