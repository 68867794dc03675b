use Rattle.std.proofs.Common.{◌≡◌, ◌+◌, ◌-◌, length, get_or, subst, arith, ℕ}
use Rattle.balise_rules.specs.Digits.{digit_value}
use Rattle.balise_text.proofs.DigitChecks.{last_byte_is, IsDigit}
use Rattle.balise_text.proofs.digit_checks.last_byte.Goals as goal

pub returns : goal.returns
returns c =
    let w = c.args.word.now in
    let m = length w - 2 in
    let place : length w - 1 ≡ m + 1 = omega (arith, c.requires) in
    let low : IsDigit c.hex_value-low.result (digit_value (get_or w (m + 1) 0)) = subst (λ (k : ℕ). IsDigit c.hex_value-low.result (digit_value (get_or w k 0))) place (c.hex_value-low.ensures.digit, c.hex_value-low.ensures.other) in
    last_byte_is w m c.hex_value-high.result c.hex_value-low.result (omega (arith, c.requires)) (c.hex_value-high.ensures.digit, c.hex_value-high.ensures.other) low
