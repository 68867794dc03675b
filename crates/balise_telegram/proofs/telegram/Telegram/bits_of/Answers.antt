use Rattle.std.proofs.Common.{sym, arith}
use Rattle.balise_telegram.proofs.Tagging.{not_found}
use Rattle.balise_telegram.proofs.Placing.{looked}
use Rattle.balise_telegram.proofs.FieldPlaces.{no_place_there, place_there}
use Rattle.balise_telegram.proofs.telegram.Telegram.bits_of.Goals as goal

pub returns-in_default-clause-place : goal.returns-in_default-clause-place
returns-in_default-clause-place c = sym (no_place_there c.args.tag 50 c.args.self.now.packets (not_found c.args.tag c.args.self.now.packets c.in_default.ensures.place))

pub returns-in_default-clause-tags : goal.returns-in_default-clause-tags
returns-in_default-clause-tags c = c.packed-packed.ensures.tags

pub returns-clause-place : goal.returns-clause-place
returns-clause-place c =
    let ps = c.args.self.now.packets in
    let q = looked c.args.tag ps c.in-Some.place.index c.in-Some.ensures.place in
    sym (place_there c.args.tag 50 c.in-Some.place.at ps c.in-Some.place.index q.0 q.1 (omega (arith, c.in-Some.ensures.stands.0.1)))

pub returns-clause-tags : goal.returns-clause-tags
returns-clause-tags c = c.packed-packed.ensures.tags
