use Rattle.std.proofs.Common.{◌∙◌, ◌<◌, get_or, arith}
use Rattle.balise_bits.proofs.Windows.{nine_across}
use Rattle.balise_bits.proofs.window.word_across.Goals as goal

pub returns-clause-value : goal.returns-clause-value
returns-clause-value c =
    let w = c.args.window.now in
    let byte : get_or w 8 0 < 256 = omega (arith, c.type_inv.window 8) in
    nine_across w c.args.shift c.from.result c.from-2.result c.requires.shift c.requires.nine (c.from.ensures ∙ c.number_in.ensures) c.from-2.ensures (omega (arith, byte, c.from-2.ensures))
