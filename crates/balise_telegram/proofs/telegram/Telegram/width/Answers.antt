use Rattle.std.proofs.Common.{arith}
use Rattle.balise_telegram.proofs.Walking.{used_within}
use Rattle.balise_telegram.proofs.telegram.Telegram.width.Goals as goal

pub returns-clause-fits : goal.returns-clause-fits
returns-clause-fits c =
    let s = c.packed.ensures in
    let inside = used_within c.packed.result.now c.args.self.now s in
    omega (arith, inside, s.ground)
