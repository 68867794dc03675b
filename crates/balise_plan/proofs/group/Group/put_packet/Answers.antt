use Rattle.std.proofs.Common.{eqb}
use Rattle.balise_rules.proofs.Tests.{nat_test}
use Rattle.balise_plan.specs.OneOrMore.{tag_at}
use Rattle.balise_plan.proofs.items.OneChanged.{Standing, at_none, at_place, found_at}
use Rattle.balise_plan.proofs.groups.Sound.{sound_at}
use Rattle.balise_plan.proofs.telegrams.Sound.{packet-put}
use Rattle.balise_plan.proofs.group.Group.put_packet.Goals as goal
use Rattle.balise_plan.proofs.group.Group.put_packet.Goals.{After-index_mut-telegram}

-- the telegram stands at its place
abbrev here : (c : After-index_mut-telegram) → Standing eqb c.args.t c.self.inside.telegrams c.args.self.now c.index_mut-telegram.result.now
here c = record { view = c.self.view_is; place = c.in-Some.i; key = tag_at c.self.inside.telegrams c.in-Some.i; found = c.in-Some.ensures; is = c.index_mut-telegram.ensures.value }

pub returns-in_default : goal.returns-in_default
returns-in_default c = at_none eqb c.args.t c.self.inside.telegrams c.args.self.now c.self.view_is c.in_default.ensures _ _

pub put-requires : goal.put-requires
put-requires c = c.requires _ (found_at nat_test (here (goal.at.put-requires c).After-index_mut-telegram))

pub invariant_of-self : goal.invariant_of-self
invariant_of-self c =
    let p = here (goal.at.invariant_of-self c).After-index_mut-telegram in
    sound_at p c.self.invariant _ (packet-put c.args.spot c.args.p c.args.packet c.put.result _ _ (c.requires _ (found_at nat_test p)) c.put.ensures)

pub returns : goal.returns
returns c = at_place nat_test (here (goal.at.returns c).After-index_mut-telegram) c.self.invariant.tags _ _ _ _ c.put.ensures
