use Rattle.std.proofs.Common.{◌∙◌, ◌++◌, ap, sym, arith}
use Rattle.balise_rules.specs.Bits.{bits}
use Rattle.balise_bits.proofs.Digits.{length-digit_bits}
use Rattle.balise_fields.proofs.FoursRead.{all_read, no_digit, one_more}
use Rattle.balise_fields.proofs.fours.digits.Goals as goal

pub returns-then-value-gt15-clause-bits : goal.returns-then-value-gt15-clause-bits
returns-then-value-gt15-clause-bits c = no_digit c.args.text.now c.loop-byte.byte-index c.loop-byte.bits c.loop-byte-test.true (c.hex_value-value.ensures.other (omega (arith, c.if-value-gt15.true))) c.loop-byte.invariant

pub loop-byte-preserved : goal.loop-byte-preserved
loop-byte-preserved c =
    one_more c.args.text.now c.loop-byte.byte-index c.hex_value-value.result c.loop-byte.bits c.push.new.self c.loop-byte-test.true (c.hex_value-value.ensures.digit (omega (arith, c.if-value-gt15.false)))
    (c.in_ok-push.ensures.ok ∙ ap (λ n. c.loop-byte.bits ++ bits 4 n) c.from.ensures) c.loop-byte.invariant

pub returns-clause-bits : goal.returns-clause-bits
returns-clause-bits c = all_read c.args.text.now c.loop-byte.byte-index c.loop-byte.bits c.loop-byte-test.false c.loop-byte.invariant

pub returns-clause-len : goal.returns-clause-len
returns-clause-len c = length-digit_bits c.args.text.now c.loop-byte.bits (sym (all_read c.args.text.now c.loop-byte.byte-index c.loop-byte.bits c.loop-byte-test.false c.loop-byte.invariant))
