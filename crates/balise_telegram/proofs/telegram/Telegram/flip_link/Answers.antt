-- The orientation is one bit.
use Rattle.std.proofs.Common.{◌≡◌, ◌∙◌, ◌-◌, ℕ, drop, ap, sym, arith}
use Rattle.balise_rules.specs.declared.variable.Var.TheVariants.{QLinkorientation}
use Rattle.balise_rules.specs.Variables.{width_of}
use Rattle.balise_rules.specs.Packet.{value}
use Rattle.balise_layout.specs.Held.{with_field}
use Rattle.balise_layout.specs.Setting.{flipped}
use Rattle.balise_layout.proofs.Values.{small_bit, with_field-missing}
use Rattle.balise_telegram.proofs.PackedPlaces.{not_located}
use Rattle.balise_telegram.proofs.PackedFields.{absent, field_missing, its_value}
use Rattle.balise_telegram.proofs.FieldPlaces.{field_found}
use Rattle.balise_telegram.proofs.PackedChanges.{changed_alike, kept_as_is}
use Rattle.balise_telegram.proofs.telegram.Telegram.flip_link.Goals as goal

pub returns-in_default : goal.returns-in_default
returns-in_default c = absent c.args.tag (flipped c.args.k) c.args.self.now (not_located c.args.tag 50 c.args.self.now.packets (sym c.in_default.ensures.place))

pub number-old-requires-clause-within : goal.number-old-requires-clause-within
unfolding width_of
number-old-requires-clause-within c = (field_found c.packed-bits.result.now c.args.self.now c.args.tag QLinkorientation c.args.k c.in-Some.packet c.in-Some-place_in.at c.packed-bits.ensures c.in-Some.ensures.place c.in-Some-place_in.ensures).within

pub overflow_sub-old : goal.overflow_sub-old
overflow_sub-old c = omega (arith, c.number-old.ensures, small_bit (drop c.in-Some-place_in.at c.packed-bits.result.now))

pub put_field-requires-clause-stands : goal.put_field-requires-clause-stands
put_field-requires-clause-stands c = (c.args.tag, c.args.k, sym (c.in-Some-place_in.ensures c.args.tag (sym c.in-Some.ensures.place)))

pub returns-in-Some-place_in : goal.returns-in-Some-place_in
unfolding width_of
returns-in-Some-place_in c =
    let y = c.args.self.now in
    let f = field_found c.packed-bits.result.now c.args.self.now c.args.tag QLinkorientation c.args.k c.in-Some.packet c.in-Some-place_in.at c.packed-bits.ensures c.in-Some.ensures.place c.in-Some-place_in.ensures in
    let old : c.number-old.result ≡ value QLinkorientation c.args.k f.packet.fields = c.number-old.ensures ∙ sym (its_value c.packed-bits.result.now y c.args.tag QLinkorientation c.args.k c.in-Some-place_in.at f) in
    c.put_field.ensures c.args.tag c.args.k (sym (c.in-Some-place_in.ensures c.args.tag (sym c.in-Some.ensures.place)))
    ∙ changed_alike c.args.tag (with_field QLinkorientation c.args.k (1 - c.number-old.result)) (flipped c.args.k) y f.packet c.in-Some.ensures.tags f.is (ap (λ (n : ℕ). with_field QLinkorientation c.args.k (1 - n) f.packet) old)

pub returns-in_default-place_in : goal.returns-in_default-place_in
returns-in_default-place_in c =
    let p = field_missing c.args.tag QLinkorientation c.args.k c.in-Some.packet c.args.self.now.packets c.in-Some.ensures.place c.in_default-place_in.ensures in
    kept_as_is c.args.tag (flipped c.args.k) c.args.self.now p.0 c.in-Some.ensures.tags p.1 (with_field-missing p.0 QLinkorientation c.args.k (1 - value QLinkorientation c.args.k p.0.fields) p.2)
