use Rattle.std.proofs.Common.{◌≡◌, ◌∙◌, sym, is_some, false, true, arith}
use Rattle.balise_rules.specs.Digits.{digit_bits}
use Rattle.balise_text.proofs.DigitChecks.{all_good, digit_next, no_digit, none_left, some_bad}
use Rattle.balise_text.proofs.digit_checks.check_digits.Goals as goal

pub returns-then-hex_value-ge16 : goal.returns-then-hex_value-ge16
returns-then-hex_value-ge16 c =
    let w = c.args.word.now in
    let i = c.loop-byte.byte-index in
    let bad : is_some (digit_bits w) ≡ false = sym c.loop-byte.invariant ∙ no_digit w i c.loop-byte-test.true (c.hex_value.ensures.other c.if-hex_value-ge16.true) in
    sym (some_bad w bad)

pub loop-byte-preserved : goal.loop-byte-preserved
loop-byte-preserved c =
    let w = c.args.word.now in
    let i = c.loop-byte.byte-index in
    sym (digit_next w i c.hex_value.result c.loop-byte-test.true (c.hex_value.ensures.digit (omega (arith, c.if-hex_value-ge16.false)))) ∙ c.loop-byte.invariant

pub returns : goal.returns
returns c =
    let w = c.args.word.now in
    let good : is_some (digit_bits w) ≡ true = sym c.loop-byte.invariant ∙ none_left w c.loop-byte.byte-index (omega (arith, c.loop-byte-test.false)) in
    sym (all_good w (omega (arith, c.if-word-ne0.false)) good)
