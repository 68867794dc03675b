-- The number is that of the bits that count.
use Rattle.std.proofs.Common.{ap, sym, ◌∙◌, length, arith}
use Rattle.balise_rules.specs.Bits.{num}
use Rattle.balise_bits.proofs.Packing.{part-held, length-view}
use Rattle.balise_bits.proofs.Pieces.{fits_word}
use Rattle.balise_bits.proofs.bit_slice.BitSlice.number.Goals as goal

pub number_at-requires-clause-within : goal.number_at-requires-clause-within
number_at-requires-clause-within c =
    let r = c.self.inside in
    omega (arith, sym (length-view r.len r.bytes.now c.self.invariant) ∙ ap length c.self.view_is, c.self.invariant.whole)

pub returns : goal.returns
returns c =
    let r = c.self.inside in
    c.number_at.ensures.value ∙ ap num (part-held r.bytes.now c.args.self.now r.len c.args.at c.args.width c.self.invariant c.self.view_is c.requires.within)

pub overflow_cast-result : goal.overflow_cast-result
overflow_cast-result c = omega (arith, fits_word c.number_at.result c.args.width c.number_at.ensures.fits c.requires.width)
