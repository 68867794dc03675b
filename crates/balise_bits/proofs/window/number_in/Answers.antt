use Rattle.std.proofs.Common.{arith}
use Rattle.balise_bits.proofs.Flat.{num-flat_one, num-flat_four, num-flat_eight}
use Rattle.balise_bits.proofs.window.number_in.Goals as goal

pub returns-in-len8 : goal.returns-in-len8
returns-in-len8 c =
    let bytes = c.args.window.now in
    omega (arith, c.joined.ensures, c.joined-in-len8.ensures, c.from.ensures, c.from-in-len8.ensures, num-flat_eight bytes (omega arith) (λ i. omega (arith, c.type_inv.window i)))

pub returns-in-len4 : goal.returns-in-len4
returns-in-len4 c =
    let bytes = c.args.window.now in
    omega (arith, c.joined-in-len4.ensures, c.from-in-len4.ensures, num-flat_four bytes (omega arith) (λ i. omega (arith, c.type_inv.window i)))

pub returns-in-len1 : goal.returns-in-len1
returns-in-len1 c = omega (arith, c.from-in-len1.ensures, num-flat_one c.args.window.now (omega arith) (omega (arith, c.type_inv.window 0)))
