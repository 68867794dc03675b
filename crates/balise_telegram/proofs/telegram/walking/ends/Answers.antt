use Rattle.std.proofs.Common.{arith}
use Rattle.balise_telegram.proofs.Walking.{few, passed_all, used_within}
use Rattle.balise_telegram.proofs.telegram.walking.ends.Goals as goal

pub returns-clause-ends : goal.returns-clause-ends
returns-clause-ends c = λ y s. passed_all c.args.bits.now y c.walk.result s (c.walk.ensures y s)

pub returns-clause-few : goal.returns-clause-few
returns-clause-few c =
    let s = c.requires.1 in
    omega (arith, (passed_all c.args.bits.now c.requires.0 c.walk.result s (c.walk.ensures c.requires.0 s)).0, few c.args.bits.now c.requires.0 s)

pub returns-clause-most : goal.returns-clause-most
returns-clause-most c =
    let s = c.requires.1 in
    omega (arith, (passed_all c.args.bits.now c.requires.0 c.walk.result s (c.walk.ensures c.requires.0 s)).1, used_within c.args.bits.now c.requires.0 s)
