use Rattle.std.proofs.Common.{◌∙◌, refl, sym, arith}
use Rattle.balise_rules.specs.Bits.{num, part}
use Rattle.balise_layout.proofs.Lent.{head_parts}
use Rattle.balise_telegram.proofs.Walking.{all_gone, next_there, place_within, shown_size, too_short}
use Rattle.balise_telegram.proofs.telegram.walking.head_at.Goals as goal

pub overflow_add-place : goal.overflow_add-place
overflow_add-place c =
    let r = c.requires in
    let within = (place_within c.args.bits.now r.0 c.args.place.index c.args.place.at r.1 r.2.0 r.2.1).1 in
    let most = (shown_size c.args.bits.now r.0 r.1).1 in
    omega (arith, within, most)

pub returns-then-place-len-clause-none : goal.returns-then-place-len-clause-none
returns-then-place-len-clause-none c = λ y s p. too_short c.args.bits.now y c.args.place.index c.args.place.at s p.1 (omega (arith, c.if-place-len.true, c.len.ensures))

pub returns-then-head-eq255-clause-none : goal.returns-then-head-eq255-clause-none
returns-then-head-eq255-clause-none c = λ y s p.
    let b = c.args.bits.now in
    let at = c.args.place.at in
    let parts = head_parts b at c.number-head.result (omega (arith, c.if-place-len.false, c.len.ensures)) c.number-head.ensures in
    all_gone b y c.args.place.index at (num (part at 8 b)) s p.1 refl (sym parts.0 ∙ c.if-head-eq255.true)

pub returns-clause-stands : goal.returns-clause-stands
returns-clause-stands c = λ y s p.
    let b = c.args.bits.now in
    let at = c.args.place.at in
    let parts = head_parts b at c.number-head.result (omega (arith, c.if-place-len.false, c.len.ensures)) c.number-head.ensures in
    (next_there b y c.args.place.index at (num (part at 8 b)) s p.1 refl (λ e. c.if-head-eq255.false (parts.0 ∙ e))).below
