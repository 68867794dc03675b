use Rattle.balise_telegram.proofs.Walking.{all_gone, next_there, place_within}
use Rattle.balise_telegram.proofs.telegram.Telegram.next_place.Goals as goal

pub number-requires-clause-within : goal.number-requires-clause-within
number-requires-clause-within c =
    (place_within c.packed-bits.result.now c.args.self.now c.args.place.index c.args.place.at c.packed-bits.ensures c.requires.0 c.requires.1).1

pub returns-then-number-eq255-clause-none : goal.returns-then-number-eq255-clause-none
returns-then-number-eq255-clause-none c =
    all_gone c.packed-bits.result.now c.args.self.now c.args.place.index c.args.place.at c.number.result c.packed-bits.ensures c.requires.1 c.number.ensures c.if-number-eq255.true

pub after-requires : goal.after-requires
after-requires c =
    let z = next_there c.packed-bits.result.now c.args.self.now c.args.place.index c.args.place.at c.number.result c.packed-bits.ensures c.requires.1 c.number.ensures c.if-number-eq255.false in
    (c.args.self.now, c.packed-bits.ensures, c.requires, z.below)

pub returns-clause-next : goal.returns-clause-next
returns-clause-next c =
    let z = next_there c.packed-bits.result.now c.args.self.now c.args.place.index c.args.place.at c.number.result c.packed-bits.ensures c.requires.1 c.number.ensures c.if-number-eq255.false in
    (c.after.ensures.index, c.after.ensures.place c.args.self.now c.packed-bits.ensures c.requires z.below, z.below)
