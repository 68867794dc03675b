use Rattle.std.proofs.Common.{◌≡◌, ◌∙◌, ◌-◌, ◌*◌, ◌%◌, ◌^◌, ◌<◌, ◌≤◌, ℕ, Bool, List, ap, arith, length, subst, sym}
use Rattle.std.proofs.Math.Nat.{mod-eq_of_lt, pow-le-pow_right}
use Rattle.balise_rules.specs.Bits.{num, part}
use Rattle.balise_text.specs.Printing.{value_at}
use Rattle.balise_text.proofs.DigitsLeft.{value_at_end, value_below, value_within}
use Rattle.balise_text.proofs.digits.value_at.Goals as goal

-- of at most eight bits
small : (b : List Bool) (at w : ℕ) → at ≤ length b → w ≤ 8 → value_at at w b < 256
small b at w h narrow = let p : 2 ^ w ≤ 2 ^ 8 = pow-le-pow_right (omega arith) narrow in omega (arith, value_below b at w h, p)

within : (b : List Bool) (at w n len : ℕ) → len ≡ length b → at < length b → w ≤ len - at → n ≡ num (part at w b) → n ≡ value_at at w b
within b at w n len l h enough e = e ∙ value_within b at w (omega (arith, l, h, enough))

last : (b : List Bool) (at w n len : ℕ) → len ≡ length b → at < length b → len - at < w → w ≤ 8 → n ≡ num (part at (len - at) b) → n * 2 ^ (w - (len - at)) % 4294967296 ≡ value_at at w b
last b at w n len l h few narrow e =
    let v : n * 2 ^ (w - (len - at)) ≡ value_at at w b = ap (λ x. x * 2 ^ (w - (len - at))) e ∙ value_at_end b at (len - at) w (omega (arith, l, h)) (omega (arith, few)) in
    ap (λ x. x % 4294967296) v ∙ mod-eq_of_lt (omega (arith, small b at w (omega (arith, h)) narrow))

pub overflow_cast-result : goal.overflow_cast-result
overflow_cast-result c =
    let b = c.args.bits.now in
    let v = within b c.args.at c.args.width c.number.result c.len.result c.len.ensures c.requires.within c.if-left-width.true c.number.ensures in
    omega (arith, v, small b c.args.at c.args.width (omega (arith, c.requires.within)) c.requires.narrow)

pub returns-then-left-width-clause-fits : goal.returns-then-left-width-clause-fits
returns-then-left-width-clause-fits c =
    let b = c.args.bits.now in
    let v = within b c.args.at c.args.width c.number.result c.len.result c.len.ensures c.requires.within c.if-left-width.true c.number.ensures in
    subst (λ n. n < 2 ^ c.args.width) (sym v) (value_below b c.args.at c.args.width (omega (arith, c.requires.within)))

pub overflow_cast-result-2 : goal.overflow_cast-result-2
overflow_cast-result-2 c =
    let b = c.args.bits.now in
    let v = last b c.args.at c.args.width c.number-2.result c.len.result c.len.ensures c.requires.within (omega (arith, c.if-left-width.false)) c.requires.narrow c.number-2.ensures in
    omega (arith, v, small b c.args.at c.args.width (omega (arith, c.requires.within)) c.requires.narrow)

pub returns-clause-value : goal.returns-clause-value
returns-clause-value c = last c.args.bits.now c.args.at c.args.width c.number-2.result c.len.result c.len.ensures c.requires.within (omega (arith, c.if-left-width.false)) c.requires.narrow c.number-2.ensures

pub returns-clause-fits : goal.returns-clause-fits
returns-clause-fits c =
    let b = c.args.bits.now in
    let v = last b c.args.at c.args.width c.number-2.result c.len.result c.len.ensures c.requires.within (omega (arith, c.if-left-width.false)) c.requires.narrow c.number-2.ensures in
    subst (λ n. n < 2 ^ c.args.width) (sym v) (value_below b c.args.at c.args.width (omega (arith, c.requires.within)))
