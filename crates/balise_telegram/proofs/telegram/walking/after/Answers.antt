use Rattle.std.proofs.Common.{arith}
use Rattle.balise_telegram.proofs.Walking.{next_below}
use Rattle.balise_telegram.proofs.telegram.walking.after.Goals as goal

pub number-head-requires-clause-within : goal.number-head-requires-clause-within
number-head-requires-clause-within c =
    let r = c.requires in
    let z = next_below c.args.bits.now r.0 c.args.place.index c.args.place.at r.1 r.2.1 r.3 in
    omega (arith, z.within, z.least)
