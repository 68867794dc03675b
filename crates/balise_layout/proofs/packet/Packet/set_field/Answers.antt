-- The refusals in their order, and the value put where the occurrence stands.
use Rattle.std.proofs.Common.{arith, ◌≡◌, ◌≤◌, ◌<◌, ◌^◌, ℕ, false, Some, take, drop, refl, sym, ap, ◌∙◌}
use Rattle.balise_rules.specs.Variables.{width_of, steers}
use Rattle.balise_rules.specs.Bits.{num}
use Rattle.balise_rules.specs.Packet.{field_of}
use Rattle.balise_layout.specs.Held.{before}
use Rattle.balise_layout.proofs.Values.{stands_within, stands_value, refused_missing, refused_steering, refused_wide, accepted, shifted_out, nothing_left, spelt_still}
use Rattle.balise_layout.proofs.packet.Packet.set_field.Goals as goal

pub returns-in_default-clause-sets : goal.returns-in_default-clause-sets
returns-in_default-clause-sets c = (refused_missing c.args.var c.args.k c.args.value c.args.self.now (sym c.in_default.ensures), refl)

pub returns-then-steers-clause-sets : goal.returns-then-steers-clause-sets
returns-then-steers-clause-sets c = (refused_steering c.args.var c.args.k c.args.value c.in-Some.at c.args.self.now (sym c.in-Some.ensures) (sym c.steers.ensures ∙ c.if-steers.true), refl)

pub returns-then-value-width-ne0-clause-sets : goal.returns-then-value-width-ne0-clause-sets
returns-then-value-width-ne0-clause-sets c =
    let wide : 2 ^ width_of c.args.var ≤ c.args.value = omega (arith, shifted_out c.args.value c.width-width.result c.if-value-width-ne0.true, ap (λ (k : ℕ). 2 ^ k) c.width-width.ensures.width) in
    (refused_wide c.args.var c.args.k c.args.value c.in-Some.at c.args.self.now (sym c.in-Some.ensures) (sym c.steers.ensures ∙ c.if-steers.false) wide, refl)

pub number-old-requires-clause-within : goal.number-old-requires-clause-within
number-old-requires-clause-within c =
    let place : before (c.args.var, c.args.k) c.args.self.now.fields ≡ Some c.in-Some.at = sym c.in-Some.ensures in
    omega (arith, c.width-width.ensures.width, stands_within c.bits.ensures.0 c.bits.result.now c.args.self.now c.args.var c.args.k c.in-Some.at c.bits.ensures.1 place)

pub returns-clause-sets : goal.returns-clause-sets
returns-clause-sets c =
    let place : before (c.args.var, c.args.k) c.args.self.now.fields ≡ Some c.in-Some.at = sym c.in-Some.ensures in
    let free : steers c.args.var ≡ false = sym c.steers.ensures ∙ c.if-steers.false in
    let fit : c.args.value < 2 ^ width_of c.args.var = omega (arith, nothing_left c.args.value c.width-width.result c.if-value-width-ne0.false, ap (λ (k : ℕ). 2 ^ k) c.width-width.ensures.width) in
    let read : num (take (width_of c.args.var) (drop c.in-Some.at c.bits.result.now)) ≡ c.number-old.result = sym (c.number-old.ensures ∙ ap (λ (w : ℕ). num (take w (drop c.in-Some.at c.bits.result.now))) c.width-width.ensures.width) in
    let old : field_of c.args.var c.args.k c.args.self.now.fields ≡ Some c.number-old.result = stands_value c.bits.ensures.0 c.bits.result.now c.args.self.now c.args.var c.args.k c.in-Some.at c.bits.ensures.1 place ∙ ap Some read in
    (accepted c.args.var c.args.k c.args.value c.in-Some.at c.args.self.now (sym c.in-Some.ensures) free fit, old, c.put_field.ensures c.args.k place)

pub returns-clause-spelt : goal.returns-clause-spelt
returns-clause-spelt c = λ version s.
    let place : before (c.args.var, c.args.k) c.args.self.now.fields ≡ Some c.in-Some.at = sym c.in-Some.ensures in
    let free : steers c.args.var ≡ false = sym c.steers.ensures ∙ c.if-steers.false in
    let fit : c.args.value < 2 ^ width_of c.args.var = omega (arith, nothing_left c.args.value c.width-width.result c.if-value-width-ne0.false, ap (λ (k : ℕ). 2 ^ k) c.width-width.ensures.width) in
    spelt_still version c.args.self.now _ c.args.var c.args.k c.args.value free fit (c.put_field.ensures c.args.k place) s
