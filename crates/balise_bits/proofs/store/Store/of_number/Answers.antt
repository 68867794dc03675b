use Rattle.std.proofs.Common.{◌≡◌, ◌*◌, length, ap, arith}
use Rattle.std.proofs.lemmas.List.{length-take}
use Rattle.balise_rules.specs.Bits.{bits}
use Rattle.balise_rules.proofs.Numbers.{length-bits}
use Rattle.balise_bits.proofs.Flat.{length-flat}
use Rattle.balise_bits.proofs.store.Store.of_number.Goals as goal

pub invariant_of-result : goal.invariant_of-result
invariant_of-result c =
    let items = c.of_number.result.items in
    let k = c.div_ceil-count.result in
    let size : 8 * length items ≡ 8 * k = omega (arith, length-flat items, ap length c.of_number.ensures, length-take (8 * k) (bits 64 c.args.number), length-bits 64 c.args.number, c.div_ceil-count.ensures, c.requires) in
    record { spare = omega (arith, size); fits = omega (arith, size, c.div_ceil-count.ensures, c.requires) }

pub returns-clause-len : goal.returns-clause-len
returns-clause-len c =
    let items = c.of_number.result.items in
    let k = c.div_ceil-count.result in
    let size : 8 * length items ≡ 8 * k = omega (arith, length-flat items, ap length c.of_number.ensures, length-take (8 * k) (bits 64 c.args.number), length-bits 64 c.args.number, c.div_ceil-count.ensures, c.requires) in
    omega (arith, size, c.div_ceil-count.ensures)
