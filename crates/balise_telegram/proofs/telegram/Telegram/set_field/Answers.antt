-- The refusals in their order, and the value put where the occurrence stands.
use Rattle.std.proofs.Common.{◌≡◌, ◌∙◌, ◌<◌, ◌≤◌, ◌^◌, ℕ, Some, false, refl, ap, sym, arith}
use Rattle.balise_rules.specs.Bits.{num, part}
use Rattle.balise_rules.specs.Variables.{width_of, steers}
use Rattle.balise_layout.proofs.Values.{accepted, nothing_left, refused_missing, refused_steering, refused_wide, shifted_out}
use Rattle.balise_telegram.proofs.PackedPlaces.{not_located}
use Rattle.balise_telegram.proofs.PackedFields.{field_missing, value_there}
use Rattle.balise_telegram.proofs.FieldPlaces.{field_found}
use Rattle.balise_telegram.proofs.Settings.{no_packet, refused_as}
use Rattle.balise_telegram.proofs.telegram.Telegram.set_field.Goals as goal

pub returns-in_default : goal.returns-in_default
returns-in_default c = (no_packet c.args.tag c.args.var c.args.k c.args.value c.args.self.now (not_located c.args.tag 50 c.args.self.now.packets (sym c.in_default.ensures.place)), refl)

pub returns-in_default-place_in : goal.returns-in_default-place_in
returns-in_default-place_in c =
    let p = field_missing c.args.tag c.args.var c.args.k c.in-Some.packet c.args.self.now.packets c.in-Some.ensures.place c.in_default-place_in.ensures in
    (refused_as c.args.tag c.args.var c.args.k c.args.value c.args.self.now p.0 p.1 ∙ refused_missing c.args.var c.args.k c.args.value p.0 p.2, refl)

pub returns-then-steers : goal.returns-then-steers
returns-then-steers c =
    let f = field_found c.packed-bits.result.now c.args.self.now c.args.tag c.args.var c.args.k c.in-Some.packet c.in-Some-place_in.at c.packed-bits.ensures c.in-Some.ensures.place c.in-Some-place_in.ensures in
    (refused_as c.args.tag c.args.var c.args.k c.args.value c.args.self.now f.packet f.is ∙ refused_steering c.args.var c.args.k c.args.value f.from f.packet f.stands (sym c.steers.ensures ∙ c.if-steers.true), refl)

pub returns-then-value-width-ne0 : goal.returns-then-value-width-ne0
returns-then-value-width-ne0 c =
    let f = field_found c.packed-bits.result.now c.args.self.now c.args.tag c.args.var c.args.k c.in-Some.packet c.in-Some-place_in.at c.packed-bits.ensures c.in-Some.ensures.place c.in-Some-place_in.ensures in
    let wide : 2 ^ width_of c.args.var ≤ c.args.value = omega (arith, shifted_out c.args.value c.width-width.result c.if-value-width-ne0.true, ap (λ (k : ℕ). 2 ^ k) c.width-width.ensures.width) in
    (refused_as c.args.tag c.args.var c.args.k c.args.value c.args.self.now f.packet f.is ∙ refused_wide c.args.var c.args.k c.args.value f.from f.packet f.stands (sym c.steers.ensures ∙ c.if-steers.false) wide, refl)

pub number-old-requires-clause-within : goal.number-old-requires-clause-within
number-old-requires-clause-within c = omega (arith, (field_found c.packed-bits.result.now c.args.self.now c.args.tag c.args.var c.args.k c.in-Some.packet c.in-Some-place_in.at c.packed-bits.ensures c.in-Some.ensures.place c.in-Some-place_in.ensures).within, c.width-width.ensures.width)

pub put_field-requires-clause-stands : goal.put_field-requires-clause-stands
put_field-requires-clause-stands c = (c.args.tag, c.args.k, sym (c.in-Some-place_in.ensures c.args.tag (sym c.in-Some.ensures.place)))

pub returns : goal.returns
returns c =
    let b = c.packed-bits.result.now in
    let f = field_found c.packed-bits.result.now c.args.self.now c.args.tag c.args.var c.args.k c.in-Some.packet c.in-Some-place_in.at c.packed-bits.ensures c.in-Some.ensures.place c.in-Some-place_in.ensures in
    let free : steers c.args.var ≡ false = sym c.steers.ensures ∙ c.if-steers.false in
    let fit : c.args.value < 2 ^ width_of c.args.var = omega (arith, nothing_left c.args.value c.width-width.result c.if-value-width-ne0.false, ap (λ (k : ℕ). 2 ^ k) c.width-width.ensures.width) in
    let old : num (part c.in-Some-place_in.at (width_of c.args.var) b) ≡ c.number-old.result = sym (c.number-old.ensures ∙ ap (λ (w : ℕ). num (part c.in-Some-place_in.at w b)) c.width-width.ensures.width) in (
      refused_as c.args.tag c.args.var c.args.k c.args.value c.args.self.now f.packet f.is ∙ accepted c.args.var c.args.k c.args.value f.from f.packet f.stands free fit,
      value_there b c.args.self.now c.args.tag c.args.var c.args.k c.in-Some-place_in.at f ∙ ap Some old,
      c.put_field.ensures c.args.tag c.args.k (sym (c.in-Some-place_in.ensures c.args.tag (sym c.in-Some.ensures.place))),
    )
