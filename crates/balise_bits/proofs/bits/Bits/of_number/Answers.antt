use Rattle.std.proofs.Common.{◌∙◌, ℕ, take, sym, ap, subst}
use Rattle.balise_rules.specs.Bits.{bits, zeros}
use Rattle.balise_rules.specs.Digits.{fill}
use Rattle.balise_rules.proofs.Numbers.{length-bits}
use Rattle.balise_bits.specs.Bytes.{flat, IsPacked}
use Rattle.balise_bits.proofs.Packing.{packed_by, view_by}
use Rattle.balise_bits.proofs.Short.{no_bits, flat-short}
use Rattle.balise_bits.proofs.bits.Bits.of_number.Goals as goal

pub returns-then-len-eq0 : goal.returns-then-len-eq0
returns-then-len-eq0 c = c.new.ensures ∙ no_bits c.args.number ∙ ap (λ (w : ℕ). bits w c.args.number) (sym c.if-len-eq0.true)

pub invariant_of-result : goal.invariant_of-result
invariant_of-result c =
    let items = c.of_number.result.items in
    let held = flat-short c.args.len c.args.number items c.requires.few c.requires.fits c.of_number.ensures.items in
    subst (λ (n : ℕ). IsPacked n items) (sym c.of_number.ensures.len) (packed_by c.args.len items (bits c.args.len c.args.number) (length-bits c.args.len c.args.number) held)

pub returns : goal.returns
returns c =
    let items = c.of_number.result.items in
    let held = flat-short c.args.len c.args.number items c.requires.few c.requires.fits c.of_number.ensures.items in
    ap (λ (n : ℕ). take n (flat items)) c.of_number.ensures.len
    ∙ view_by c.args.len items (bits c.args.len c.args.number) (zeros (fill c.args.len)) (length-bits c.args.len c.args.number) held
