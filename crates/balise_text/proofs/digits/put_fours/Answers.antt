use Rattle.std.proofs.Common.{◌*◌, ◌<◌, length, arith}
use Rattle.balise_lines.specs.Writing.{LastFailed}
use Rattle.balise_lines.proofs.PartsWritten.{wrote_more, wrote_some, wrote_all}
use Rattle.balise_text.specs.Printing.{digit_fill}
use Rattle.balise_text.proofs.DigitsLeft.{four_left, none_left}
use Rattle.balise_text.proofs.digits.put_fours.Goals as goal

pub returns-in-Err : goal.returns-in-Err
returns-in-Err g c =
    let h : 4 * c.loop-place.place < length c.args.bits.now = omega (arith, c.loop-place-test.true, c.div_ceil-place-end.ensures, c.len.ensures) in
    wrote_some LastFailed _ _ _ _ _ _ _ _ (four_left c.args.bits.now c.loop-place.place c.value_at.result c.digit.result h c.value_at.ensures.value c.digit.ensures) c.loop-place.invariant c.in-Err.ensures

pub loop-place-preserved : goal.loop-place-preserved
loop-place-preserved g c =
    let h : 4 * c.loop-place.place < length c.args.bits.now = omega (arith, c.loop-place-test.true, c.div_ceil-place-end.ensures, c.len.ensures) in
    wrote_more _ _ _ _ _ _ _ _ (four_left c.args.bits.now c.loop-place.place c.value_at.result c.digit.result h c.value_at.ensures.value c.digit.ensures) c.loop-place.invariant c.in_default.ensures

pub returns : goal.returns
returns g c =
    let b = c.args.bits.now in
    wrote_all _ _ _ _ _ (none_left b (digit_fill (length b)) (4 * c.loop-place.place) (omega (arith, c.loop-place-test.false, c.div_ceil-place-end.ensures, c.len.ensures))) c.loop-place.invariant
