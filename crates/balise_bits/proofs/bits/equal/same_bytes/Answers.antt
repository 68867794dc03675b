use Rattle.std.proofs.Common.{sym, ap, ◌∙◌, arith}
use Rattle.std.specs.Cmp.Lexicographic.{bytes_decides}
use Rattle.balise_bits.specs.Bytes.{flat}
use Rattle.balise_bits.proofs.Same.{flat_injective}
use Rattle.balise_bits.proofs.bits.equal.same_bytes.Goals as goal

pub returns : goal.returns
returns c =
    let a = c.args.a.now in
    let b = c.args.b.now in
    let decides = bytes_decides a b in (
      λ t. ap flat (decides.0 (sym c.eq.ensures ∙ t)),
      λ e. c.eq.ensures ∙ decides.1 (flat_injective a b (λ i. omega (arith, c.type_inv.a i)) (λ i. omega (arith, c.type_inv.b i)) e),
    )
