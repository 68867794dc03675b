use Rattle.std.proofs.Common.{◌∷◌, ℕ, drop, ap, subst, sym, ◌∙◌, arith}
use Rattle.balise_telegram.specs.Linking.{PassesOver}
use Rattle.balise_telegram.proofs.PassingOver.{links_first, names_none, none_first, none_passed, one_passed}
use Rattle.balise_telegram.proofs.Walking.{few}
use Rattle.balise_telegram.proofs.telegram.walking.to_linking.Goals as goal

pub packets-init : goal.packets-init
packets-init c = λ y s p. (p, none_passed (drop c.args.from.index y.packets))

pub head_at-requires : goal.head_at-requires
head_at-requires c = let r = c.requires in (r.0, r.1, (c.packets.invariant r.0 r.1 r.2).0)

pub returns-in_default-clause-reaches : goal.returns-in_default-clause-reaches
returns-in_default-clause-reaches c = λ y s p.
    let i = c.packets.invariant y s p in
    record { place = i.0; passes = i.1; linking = none_first y c.packets.place (c.in_default.ensures.none y s i.0) }

pub returns-then-may_have_elements-clause-reaches : goal.returns-then-may_have_elements-clause-reaches
returns-then-may_have_elements-clause-reaches c = λ y s p.
    let i = c.packets.invariant y s p in
    let first = links_first c.args.bits.now y c.packets.place c.in-Some.head s i.0 (c.in-Some.ensures.stands y s i.0) c.in-Some.ensures.head (c.may_have_elements.ensures.some c.if-may_have_elements.true) in
    record { place = i.0; passes = i.1; linking = first }

pub after_head-place-requires-clause-stands : goal.after_head-place-requires-clause-stands
after_head-place-requires-clause-stands c =
    let r = c.requires in
    let is = (c.packets.invariant r.0 r.1 r.2).0 in
    (r.0, r.1, is, c.in-Some.ensures.stands r.0 r.1 is)

pub packets-preserved : goal.packets-preserved
packets-preserved c = λ y s p.
    let i = c.packets.invariant y s p in
    let below = c.in-Some.ensures.stands y s i.0 in
    let x = names_none c.args.bits.now y c.packets.place c.in-Some.head s i.0 below c.in-Some.ensures.head (c.may_have_elements.ensures.none c.if-may_have_elements.false) in
    let over = subst (PassesOver (drop c.args.from.index y.packets)) (x.1 ∙ ap (λ (k : ℕ). x.0 ∷ drop k y.packets) (sym c.after_head-place.ensures.index)) i.1 in
    (c.after_head-place.ensures.place y s i.0 below, one_passed _ _ x.0 x.2 over)

pub packets-smaller : goal.packets-smaller
packets-smaller c =
    let r = c.requires in
    let i = c.packets.invariant r.0 r.1 r.2 in
    omega (arith, c.after_head-place.ensures.index, c.in-Some.ensures.stands r.0 r.1 i.0, few c.args.bits.now r.0 r.1)
