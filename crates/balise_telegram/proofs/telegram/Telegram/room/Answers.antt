use Rattle.std.proofs.Common.{arith}
use Rattle.balise_telegram.proofs.Walking.{used_within}
use Rattle.balise_telegram.proofs.telegram.Telegram.room.Goals as goal

pub overflow_sub-result : goal.overflow_sub-result
overflow_sub-result c =
    omega (arith, c.len.ensures, c.used.ensures, used_within c.packed.result.now c.args.self.now c.packed.ensures)

pub returns-clause-fits : goal.returns-clause-fits
returns-clause-fits c =
    let s = c.packed.ensures in
    omega (arith, used_within c.packed.result.now c.args.self.now s, s.ground)
