use Rattle.std.proofs.Common.{eqb, sym}
use Rattle.balise_rules.proofs.Tests.{nat_test}
use Rattle.balise_plan.specs.OneOrMore.{tag_at}
use Rattle.balise_plan.proofs.items.OneChanged.{found_none, found_at}
use Rattle.balise_plan.proofs.group.Group.telegram.Goals as goal

pub returns-in-None : goal.returns-in-None
returns-in-None c = sym (found_none eqb c.args.t c.self.inside.telegrams c.args.self.now c.self.view_is c.in-None.ensures)

pub returns-in-Some : goal.returns-in-Some
returns-in-Some c = sym (found_at nat_test (record { view = c.self.view_is; place = c.in-Some.i; key = tag_at c.self.inside.telegrams c.in-Some.i; found = c.in-Some.ensures; is = c.index.ensures }))
