use Rattle.std.proofs.Common.{◌%◌}
use Rattle.balise_layout.proofs.Lent.{head_parts}
use Rattle.balise_telegram.proofs.Walking.{none_walked, one_walked, walked_most}
use Rattle.balise_telegram.proofs.telegram.walking.walk.Goals as goal

pub packets-init : goal.packets-init
packets-init c = none_walked c.args.bits.now c.args.most

pub returns-then-count-most : goal.returns-then-count-most
returns-then-count-most c = walked_most c.args.bits.now c.args.most c.packets.count c.packets.at c.packets.invariant c.if-count-most.true

pub packets-preserved : goal.packets-preserved
packets-preserved c =
    let b = c.args.bits.now in
    let at = c.packets.at in
    let w = c.packets.invariant in
    let parts = head_parts b at c.in-Some.head c.in-Some.ensures.within c.in-Some.ensures.head in
    one_walked b c.args.most c.packets.count at (c.in-Some.head % 8192) w c.if-count-most.false (λ y s. c.in-Some.ensures.stands y s (w.place y s)) parts.1
