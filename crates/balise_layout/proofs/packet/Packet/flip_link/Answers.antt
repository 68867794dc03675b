-- The orientation is one bit.
use Rattle.std.proofs.Common.{arith, ◌≡◌, ◌<◌, ◌^◌, ◌-◌, ℕ, Some, drop, refl, sym, ap, ◌∙◌}
use Rattle.balise_rules.specs.declared.variable.Var.TheVariants.{QLinkorientation}
use Rattle.balise_rules.specs.Variables.{width_of, steers}
use Rattle.balise_rules.specs.Packet.{value}
use Rattle.balise_layout.specs.Held.{before, with_field}
use Rattle.balise_layout.proofs.Values.{stands_within, stands_value, value_is, small_bit, with_field-missing, spelt_still}
use Rattle.balise_layout.proofs.packet.Packet.flip_link.Goals as goal

pub number-old-requires-clause-within : goal.number-old-requires-clause-within
unfolding width_of
number-old-requires-clause-within c =
    let place : before (QLinkorientation, c.args.k) c.args.self.now.fields ≡ Some c.in-Some.at = sym c.in-Some.ensures in
    stands_within c.bits.ensures.0 c.bits.result.now c.args.self.now QLinkorientation c.args.k c.in-Some.at c.bits.ensures.1 place

pub overflow_sub-old : goal.overflow_sub-old
overflow_sub-old c = omega (arith, c.number-old.ensures, small_bit (drop c.in-Some.at c.bits.result.now))

pub returns-in-Some-clause-flipped : goal.returns-in-Some-clause-flipped
unfolding width_of
returns-in-Some-clause-flipped c =
    let p = c.args.self.now in
    let place : before (QLinkorientation, c.args.k) p.fields ≡ Some c.in-Some.at = sym c.in-Some.ensures in
    let old : value QLinkorientation c.args.k p.fields ≡ c.number-old.result = value_is QLinkorientation c.args.k _ p.fields (stands_value c.bits.ensures.0 c.bits.result.now p QLinkorientation c.args.k c.in-Some.at c.bits.ensures.1 place) ∙ sym c.number-old.ensures in
    c.put_field.ensures c.args.k place
    ∙ ap (λ (n : ℕ). with_field QLinkorientation c.args.k (1 - n) p) (sym old)

pub returns-in-Some-clause-spelt : goal.returns-in-Some-clause-spelt
unfolding width_of steers
returns-in-Some-clause-spelt c = λ version s.
    let place : before (QLinkorientation, c.args.k) c.args.self.now.fields ≡ Some c.in-Some.at = sym c.in-Some.ensures in
    let fit : 1 - c.number-old.result < 2 ^ 1 = omega arith in
    spelt_still version c.args.self.now _ QLinkorientation c.args.k (1 - c.number-old.result) refl fit (c.put_field.ensures c.args.k place) s

pub returns-in_default-clause-flipped : goal.returns-in_default-clause-flipped
returns-in_default-clause-flipped c = sym (with_field-missing c.args.self.now QLinkorientation c.args.k (1 - value QLinkorientation c.args.k c.args.self.now.fields) (sym c.in_default.ensures))
