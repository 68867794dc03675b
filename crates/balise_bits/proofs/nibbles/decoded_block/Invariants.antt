use Rattle.std.proofs.Common.{◌≡◌, true, length}
use Rattle.balise_bits.proofs.Blocks.{Valued}
use Rattle.balise_bits.proofs.Judging.{Good}
use Rattle.balise_bits.proofs.nibbles.decoded_block.Given as goal

abbrev pub invariant-loop-i : goal.invariant-loop-i
invariant-loop-i l = Valued l.text l.values l.i l.good × (length l.values ≡ 32)

abbrev pub invariant-loop-k : goal.invariant-loop-k
invariant-loop-k l = l.good ≡ true → Good l.text l.out l.k
