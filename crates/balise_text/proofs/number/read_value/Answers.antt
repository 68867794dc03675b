use Rattle.std.proofs.Common.{◌≡◌, ◌∙◌, ℕ, ◌+◌, ◌-◌, ◌*◌, ◌<◌, ◌∷◌, None, sym, ap, drop, get_or, length, option_map, true, arith}
use Rattle.balise_text.specs.Left.{up_to}
use Rattle.balise_text.specs.Words.{is_digit, value_from, most_number}
use Rattle.balise_text.proofs.Numbers.{value_of_digit, too_large, next_digit}
use Rattle.std.proofs.lemmas.Bool.{ne_eqb}
use Rattle.balise_text.proofs.UpTo.{before_mark}
use Rattle.balise_text.proofs.number.read_value.Goals as goal

pub returns-then-value-gt4294967295 : goal.returns-then-value-gt4294967295
returns-then-value-gt4294967295 c =
    let t = c.args.text.now in
    let m = c.args.mark in
    let i = c.loop-byte.byte-index in
    let v = c.loop-byte.value in
    let b = get_or t i 0 in
    let left = up_to m (drop (i + 1) t) in
    let digit : is_digit b ≡ true = sym c.is_ascii_digit.ensures.value ∙ c.if-not-is_ascii_digit.false in
    let big : most_number < v * 10 + (b - 48) = omega (arith, c.if-value-gt4294967295.true, c.from.ensures) in
    let cut : up_to m (drop i t) ≡ b ∷ left = ap (up_to m) (next_digit t i c.loop-byte-test.true) ∙ before_mark m b (drop (i + 1) t) (ne_eqb b m c.if-byte-mark.false) in
    let none : value_from 0 (up_to m t) ≡ None = sym c.loop-byte.invariant.1 ∙ ap (value_from v) cut ∙ value_of_digit v b left digit ∙ too_large (v * 10 + (b - 48)) left big in
    sym (ap (option_map (λ (n : ℕ). (n, length (up_to m t)))) none)
