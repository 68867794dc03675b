use Rattle.std.proofs.Common.{rules, Some, sym, None, inl, inr}
use Rattle.balise_plan.proofs.items.KeyPlaces.{found-after, found-before, place-stands}
use Rattle.balise_plan.proofs.group_places.place_of.Goals as goal

pub returns-in-Some-clause-put : goal.returns-in-Some-clause-put
returns-in-Some-clause-put c = found-after c.in-After-Some.tag c.args.groups.now.entries c.args.spot c.in-Some.i (search rules) (sym c.in-Some.ensures)

pub returns-in-Before-Some-clause-put : goal.returns-in-Before-Some-clause-put
returns-in-Before-Some-clause-put c = found-before c.in-Before-Some.tag c.args.groups.now.entries c.args.spot c.place_of-in-Before-Some.result (search rules) c.place_of-in-Before-Some.ensures

pub returns-in-Some-clause-there : goal.returns-in-Some-clause-there
returns-in-Some-clause-there c = place-stands c.in-After-Some.tag c.args.groups.now.entries c.args.spot (Some c.in-Some.i) (inl (search rules)) c.in-Some.ensures

pub returns-in-None-clause-there : goal.returns-in-None-clause-there
returns-in-None-clause-there c = place-stands c.in-After-Some.tag c.args.groups.now.entries c.args.spot None (inl (search rules)) c.in-None.ensures

pub returns-in-Before-Some-clause-there : goal.returns-in-Before-Some-clause-there
returns-in-Before-Some-clause-there c = place-stands c.in-Before-Some.tag c.args.groups.now.entries c.args.spot c.place_of-in-Before-Some.result (inr (search rules)) c.place_of-in-Before-Some.ensures
