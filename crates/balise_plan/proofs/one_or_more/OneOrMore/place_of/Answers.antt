use Rattle.std.proofs.Common.{ℕ, eqb, position, Some, ap, ◌∙◌, arith}
use Rattle.balise_plan.specs.OneOrMore.{by_tag, is_turned}
use Rattle.balise_plan.proofs.items.Tagged.{no-place, place-tagged}
use Rattle.balise_plan.proofs.one_or_more.OneOrMore.place_of.Goals as goal

pub returns-then-tag-len : goal.returns-then-tag-len
returns-then-tag-len g c =
    no-place (by_tag c.self.inside.held) (is_turned c.self.inside.held) c.args.tag (omega (arith, c.len.ensures, c.if-tag-len.true)) ∙ ap (position (λ q. eqb c.args.tag q.0)) c.self.view_is

pub returns : goal.returns
returns g c =
    ap (λ (i : ℕ). Some i) c.turned.ensures.is
    ∙ place-tagged (by_tag c.self.inside.held) (is_turned c.self.inside.held) c.args.tag (omega (arith, c.len.ensures, c.if-tag-len.false)) ∙ ap (position (λ q. eqb c.args.tag q.0)) c.self.view_is
