use Rattle.balise_bits.proofs.Printed.{Printed}
use Rattle.balise_bits.proofs.nibbles.put_digits.Given as goal

abbrev pub invariant-loop-k : goal.invariant-loop-k
invariant-loop-k l = Printed l.bytes l.out l.k
