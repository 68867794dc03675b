use Rattle.std.proofs.Common.{arith}
use Rattle.balise_bits.proofs.Printed.{none_printed, printed_more, all_printed}
use Rattle.balise_bits.proofs.nibbles.put_digits.Goals as goal

pub loop-k-init : goal.loop-k-init
loop-k-init c = none_printed c.args.bytes.now c.args.out.now

pub loop-k-preserved : goal.loop-k-preserved
loop-k-preserved c = printed_more c.args.bytes.now c.loop-k.out c.loop-k.k _ _ (omega (arith, c.requires, c.loop-k.auto.out, c.loop-k-test.true)) c.chosen_digit.ensures c.chosen_digit-in-loop-k.ensures c.loop-k.invariant

pub returns-clause-digits : goal.returns-clause-digits
returns-clause-digits c = all_printed c.args.bytes.now c.loop-k.out c.loop-k.k (λ i. omega (arith, c.type_inv.bytes i)) (omega (arith, c.requires, c.loop-k.auto.out)) (omega (arith, c.loop-k-test.false, c.loop-k.auto.k-end)) c.loop-k.invariant
