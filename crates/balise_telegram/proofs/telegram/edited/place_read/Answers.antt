use Rattle.std.proofs.Common.{◌≡◌, ◌∙◌, ◌<◌, length, ℕ, Some, refl, sym, ap, arith}
use Rattle.std.specs.List.{position}
use Rattle.balise_rules.specs.declared.tag.Tag.TheVariants.{Base}
use Rattle.balise_telegram.proofs.Tagging.{is_tagged}
use Rattle.balise_telegram.proofs.KeptTags.{place_is, no_place}
use Rattle.balise_telegram.proofs.Walking.{passed_to}
use Rattle.balise_telegram.proofs.telegram.edited.place_read.Goals as goal

pub returns-in_default-clause-place : goal.returns-in_default-clause-place
returns-in_default-clause-place c = λ y s u. no_place c.args.tag y.packets (position (is_tagged c.args.tag) y.packets) u refl (λ (j : ℕ) (t : c.args.tag ≡ Base j) (l : j < length y.packets). c.in_default.not-Base j t)

pub returns-then-place-number-clause-place : goal.returns-then-place-number-clause-place
returns-then-place-number-clause-place c = λ y s u.
    no_place c.args.tag y.packets (position (is_tagged c.args.tag) y.packets) u refl
    (λ (j : ℕ) (t : c.args.tag ≡ Base j) (l : j < length y.packets).
    let both : Base c.in-Base.number ≡ Base j = sym c.in-Base.is ∙ t in
    let one : c.in-Base.number ≡ j = cc in
    let p = c.walk-place.ensures y s in
    omega (arith, p.counted, c.if-place-number.true, one, l))

pub returns-in_default-head_at-clause-place : goal.returns-in_default-head_at-clause-place
returns-in_default-head_at-clause-place c = λ y s u.
    no_place c.args.tag y.packets (position (is_tagged c.args.tag) y.packets) u refl
    (λ (j : ℕ) (t : c.args.tag ≡ Base j) (l : j < length y.packets).
    let both : Base c.in-Base.number ≡ Base j = sym c.in-Base.is ∙ t in
    let one : c.in-Base.number ≡ j = cc in
    let p = c.walk-place.ensures y s in
    let gone = c.in_default-head_at.ensures.none y s (passed_to y c.in-Base.number c.walk-place.result p) in
    omega (arith, p.counted, c.if-place-number.false, one, l, gone))

pub returns-clause-place : goal.returns-clause-place
returns-clause-place c = λ y s u.
    let p = c.walk-place.ensures y s in
    let below = c.in-Some.ensures.stands y s (passed_to y c.in-Base.number c.walk-place.result p) in
    let same : c.walk-place.result.index ≡ c.in-Base.number = omega (arith, p.counted, c.if-place-number.false) in
    ap Some same ∙ place_is c.args.tag y.packets (position (is_tagged c.args.tag) y.packets) u refl c.in-Base.number c.in-Base.is (omega (arith, same, below))

pub returns-clause-stands : goal.returns-clause-stands
returns-clause-stands c = λ y s.
    let p = passed_to y c.in-Base.number c.walk-place.result (c.walk-place.ensures y s) in
    (p, c.in-Some.ensures.stands y s p)
