use Rattle.std.proofs.Common.{◌≡◌, ◌∙◌, ◌+◌, ◌<◌, drop, length, sym, arith}
use Rattle.balise_rules.specs.Bits.{num, part}
use Rattle.balise_fields.specs.Explaining.{zeros_before}
use Rattle.balise_fields.proofs.ZerosAndDigits.{one_here, zero_here}
use Rattle.balise_fields.proofs.digit_faults.first_one.Goals as goal

pub returns-then-number-ne0 : goal.returns-then-number-ne0
returns-then-number-ne0 c =
    let b = c.args.bits.now in
    let i = c.loop-place.place in
    let h : i < length b = omega (arith, c.loop-place-test.true, c.len-len.ensures) in
    let z : zeros_before (drop i b) ≡ 0 = one_here b i h (λ e. c.if-number-ne0.true (c.number.ensures ∙ e)) in
    let v : c.args.at + zeros_before (drop c.args.at b) ≡ i + zeros_before (drop i b) = c.loop-place.invariant in
    omega (arith, v, z)

pub loop-place-preserved : goal.loop-place-preserved
loop-place-preserved c =
    let b = c.args.bits.now in
    let i = c.loop-place.place in
    let h : i < length b = omega (arith, c.loop-place-test.true, c.len-len.ensures) in
    let n : num (part i 1 b) ≡ 0 = sym c.number.ensures ∙ c.if-number-ne0.false in
    let z : zeros_before (drop i b) ≡ 1 + zeros_before (drop (i + 1) b) = zero_here b i h n in
    let v : c.args.at + zeros_before (drop c.args.at b) ≡ i + zeros_before (drop i b) = c.loop-place.invariant in
    let w : c.args.at + zeros_before (drop c.args.at b) ≡ (i + 1) + zeros_before (drop (i + 1) b) = omega (arith, v, z) in
    w
