use Rattle.std.proofs.Common.{eqb, option_map, Some, sym, ap, ◌∙◌}
use Rattle.std.specs.Prelude.{unwrap_or}
use Rattle.balise_rules.specs.Plan.{country_of}
use Rattle.balise_rules.proofs.Tests.{nat_test}
use Rattle.balise_plan.specs.OneOrMore.{tag_at}
use Rattle.balise_plan.proofs.items.OneChanged.{found_none, found_at}
use Rattle.balise_plan.proofs.group.Group.country.Goals as goal

pub returns-in_default : goal.returns-in_default
returns-in_default c = sym (ap (option_map country_of) (found_none eqb c.args.t c.self.inside.telegrams c.args.self.now c.self.view_is c.in_default.ensures))

pub returns : goal.returns
returns c =
    ap Some (c.unwrap_or.ensures ∙ ap (λ o. unwrap_or o 0) c.head.ensures)
    ∙ sym (ap (option_map country_of) (found_at nat_test (record { view = c.self.view_is; place = c.in-Some.i; key = tag_at c.self.inside.telegrams c.in-Some.i; found = c.in-Some.ensures; is = c.index-telegram.ensures })))
