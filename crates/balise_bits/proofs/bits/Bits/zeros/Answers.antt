use Rattle.std.proofs.Common.{◌≡◌, ◌∙◌, ◌+◌, ◌*◌, ℕ, [], take, sym, ap, subst, arith}
use Rattle.balise_rules.specs.Digits.{fill}
use Rattle.balise_bits.specs.Bytes.{flat, IsPacked}
use Rattle.balise_bits.proofs.Packing.{packed_none, packed_grown, view-grown}
use Rattle.balise_bits.proofs.bits.Bits.zeros.Goals as goal

size : (c : goal.In_ok-bytes) → 8 * (0 + c.div_ceil-count.result) ≡ (0 + c.args.len) + fill (0 + c.args.len)
size c = omega (arith, c.div_ceil-count.ensures)

len : (c : goal.In_ok-bytes) → c.in_ok-bytes.bytes.len ≡ 0 + c.args.len
len c = omega (arith, c.div_ceil-count.ensures, c.in_ok-bytes.ensures.len)

pub invariant_of-result : goal.invariant_of-result
invariant_of-result c =
    subst (λ (n : ℕ). IsPacked n c.in_ok-bytes.bytes.items) (sym (len c)) (packed_grown 0 c.args.len c.div_ceil-count.result [] c.in_ok-bytes.bytes.items packed_none c.in_ok-bytes.ensures.items (size c))

pub returns-clause-ok : goal.returns-clause-ok
returns-clause-ok c =
    ap (λ (n : ℕ). take n (flat c.in_ok-bytes.bytes.items)) (len c)
    ∙ view-grown 0 c.args.len c.div_ceil-count.result [] c.in_ok-bytes.bytes.items packed_none c.in_ok-bytes.ensures.items (size c)
