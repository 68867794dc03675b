use Rattle.std.proofs.Common.{◌*◌, ◌<◌, length, arith}
use Rattle.balise_lines.specs.Writing.{LastFailed}
use Rattle.balise_lines.proofs.PartsWritten.{wrote_more, wrote_some, wrote_all}
use Rattle.balise_rules.specs.Digits.{fill}
use Rattle.balise_text.proofs.DigitsLeft.{byte_left, none_left}
use Rattle.balise_text.proofs.digits.put_digits.Goals as goal

pub returns-in-Err : goal.returns-in-Err
returns-in-Err g c =
    let h : 8 * c.loop-place.place < length c.args.bits.now = omega (arith, c.loop-place-test.true, c.div_ceil-place-end.ensures, c.len.ensures) in
    let e = byte_left c.args.bits.now c.loop-place.place c.value_at-value.result c.digit.result c.digit-in-loop-place.result h c.value_at-value.ensures.value c.digit.ensures c.digit-in-loop-place.ensures in
    wrote_some LastFailed _ _ _ _ _ _ _ _ e c.loop-place.invariant c.in-Err.ensures

pub loop-place-preserved : goal.loop-place-preserved
loop-place-preserved g c =
    let h : 8 * c.loop-place.place < length c.args.bits.now = omega (arith, c.loop-place-test.true, c.div_ceil-place-end.ensures, c.len.ensures) in
    let e = byte_left c.args.bits.now c.loop-place.place c.value_at-value.result c.digit.result c.digit-in-loop-place.result h c.value_at-value.ensures.value c.digit.ensures c.digit-in-loop-place.ensures in
    wrote_more _ _ _ _ _ _ _ _ e c.loop-place.invariant c.in_default.ensures

pub returns : goal.returns
returns g c =
    let b = c.args.bits.now in
    let i = c.loop-place.place in
    wrote_all _ _ _ _ _ (none_left b (fill (length b)) (8 * i) (omega (arith, c.loop-place-test.false, c.div_ceil-place-end.ensures, c.len.ensures))) c.loop-place.invariant
