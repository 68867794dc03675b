use Rattle.std.proofs.Common.{sym, subst, List, ℕ}
use Rattle.balise_bits.specs.Bytes.{IsPacked}
use Rattle.balise_bits.proofs.Packing.{packed_none}
use Rattle.balise_bits.proofs.bits.Bits.with_capacity.Goals as goal

pub invariant_of-result : goal.invariant_of-result
invariant_of-result c = subst (λ (n : ℕ). IsPacked n c.in_ok-bytes.bytes.items) (sym c.in_ok-bytes.ensures.len) (subst (λ (x : List ℕ). IsPacked 0 x) (sym c.in_ok-bytes.ensures.items) packed_none)
