use Rattle.std.proofs.Common.{sym, subst, List, ℕ}
use Rattle.balise_bits.specs.Bytes.{IsPacked}
use Rattle.balise_bits.proofs.Packing.{packed_none}
use Rattle.balise_bits.proofs.bits.Bits.new.Goals as goal

pub invariant_of-result : goal.invariant_of-result
invariant_of-result c = subst (λ (n : ℕ). IsPacked n c.new.result.items) (sym c.new.ensures.len) (subst (λ (x : List ℕ). IsPacked 0 x) (sym c.new.ensures.items) packed_none)
