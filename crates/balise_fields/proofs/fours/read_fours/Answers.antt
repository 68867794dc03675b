use Rattle.std.proofs.Common.{◌≡◌, ◌∙◌, ◌+◌, ◌-◌, ◌*◌, Some, length, sym, arith}
use Rattle.balise_rules.specs.Digits.{digit_bits}
use Rattle.balise_bits.proofs.Digits.{length-digit_bits}
use Rattle.balise_text.specs.Printing.{digit_fill}
use Rattle.balise_fields.proofs.FoursRead.{are_read, bad_count, spare_bits}
use Rattle.balise_fields.proofs.fours.read_fours.Goals as goal

pub returns-then-text-div_ceil : goal.returns-then-text-div_ceil
returns-then-text-div_ceil c = bad_count c.args.len c.args.text.now (λ e. c.if-text-div_ceil.true (omega (arith, e, c.div_ceil.ensures)))

pub returns-then-number-ne0 : goal.returns-then-number-ne0
returns-then-number-ne0 c =
    let b = c.in-Some.bits in
    let e : Some b ≡ digit_bits c.args.text.now = sym c.in-Some.is ∙ c.in_ok-bits.ensures.bits in
    let l : length b ≡ 4 * length c.args.text.now = length-digit_bits c.args.text.now b (sym e) in
    let f : length b ≡ c.args.len + digit_fill c.args.len = omega (arith, l, c.if-text-div_ceil.false, c.div_ceil.ensures) in
    spare_bits c.args.len (c.len.result - c.args.len) c.args.text.now b e f (omega (arith, f, c.len.ensures)) (λ z. c.if-number-ne0.true (c.number.ensures ∙ z))

pub returns : goal.returns
returns c =
    let b = c.in-Some.bits in
    let e : Some b ≡ digit_bits c.args.text.now = sym c.in-Some.is ∙ c.in_ok-bits.ensures.bits in
    let l : length b ≡ 4 * length c.args.text.now = length-digit_bits c.args.text.now b (sym e) in
    let f : length b ≡ c.args.len + digit_fill c.args.len = omega (arith, l, c.if-text-div_ceil.false, c.div_ceil.ensures) in
    are_read c.args.len (c.len.result - c.args.len) c.args.text.now b c.in_ok-slice.field-0 e f (omega (arith, f, c.len.ensures)) (sym c.number.ensures ∙ c.if-number-ne0.false) c.in_ok-slice.ensures.ok
