use Rattle.std.proofs.Common.{arith}
use Rattle.balise_bits.proofs.Pieces.{fits_word}
use Rattle.balise_bits.proofs.bits.Bits.number.Goals as goal

pub overflow_cast-result : goal.overflow_cast-result
overflow_cast-result c = omega (arith, fits_word c.wide_number.result c.args.width c.wide_number.ensures.fits c.requires.width)
