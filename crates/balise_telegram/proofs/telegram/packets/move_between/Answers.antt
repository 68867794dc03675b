use Rattle.std.proofs.Common.{◌-◌, inr, sym, subst, arith}
use Rattle.std.specs.List.{remove}
use Rattle.balise_rules.specs.Packet.{Packet, width}
use Rattle.balise_rules.specs.Back.{with_packets}
use Rattle.balise_rules.specs.Telegram.{Telegram}
use Rattle.balise_telegram.specs.Moving.{moved_to}
use Rattle.balise_telegram.specs.Shown.{Gap, Goes, IsOver, IsShown}
use Rattle.balise_telegram.proofs.Moves.{apart, goes_from, moved, nearer_below, wide_below, Nearer}
use Rattle.balise_telegram.proofs.Spliced.{spot_fits}
use Rattle.balise_telegram.proofs.telegram.packets.move_between.Goals as goal
use Rattle.balise_telegram.proofs.telegram.packets.move_between.Goals.{then-from-to, else-from-to}

pub overflow_sub-width : goal.overflow_sub-width
overflow_sub-width c =
    let t = goes_from c.args.bits.now c.requires.0 c.args.tag c.args.packet.now c.args.from c.args.after c.args.to c.args.used c.requires.1 c.requires.3 in
    let wide = t.wide in
    omega (arith, wide)

pub cut_out-requires : goal.cut_out-requires
cut_out-requires c =
    let t = goes_from c.args.bits.now c.requires.0 c.args.tag c.args.packet.now c.args.from c.args.after c.args.to c.args.used c.requires.1 c.requires.3 in
    (c.requires.0, c.requires.1, c.requires.2, t.spot)

pub overflow_sub-place-then-from-to : goal.overflow_sub-place-then-from-to
overflow_sub-place-then-from-to c =
    let t = goes_from c.args.bits.now c.requires.0 c.args.tag c.args.packet.now c.args.from c.args.after c.args.to c.args.used c.requires.1 c.requires.3 in
    wide_below c.requires.0 c.args.tag c.args.from c.args.after c.args.to c.args.used t c.if-from-to.true c.requires.3.there

pub overflow_sub-used : goal.overflow_sub-used
overflow_sub-used c =
    let t = goes_from c.args.bits.now c.requires.0 c.args.tag c.args.packet.now c.args.from c.args.after c.args.to c.args.used c.requires.1 c.requires.3 in
    let f = spot_fits c.args.bits.now c.requires.0 c.args.from.index c.args.from.at (c.args.after.at - c.args.from.at) c.args.used c.requires.1 t.spot in
    omega (arith, f.end)

pub put_between-done-requires : goal.put_between-done-requires
put_between-done-requires c =
    let b = c.args.bits.now in
    let y = c.requires.0 in
    let g = c.requires.3 in
    let t = goes_from b y c.args.tag c.args.packet.now c.args.from c.args.after c.args.to c.args.used c.requires.1 g in
    let y2 = with_packets y (remove y.packets c.args.from.index) in
    let by : Nearer c.args.from.index c.args.to c.if-from-to.place (c.args.after.at - c.args.from.at) = elim c.if-from-to.branch [ then-from-to w ↦ nearer_below c.args.from.index _ c.args.to c.if-from-to.place w.if-from-to.true w.place-is | else-from-to w ↦ inr (w.if-from-to.false, w.place-is) ] in
    let a = apart b c.cut_out.new.bits y c.args.tag c.args.from c.args.after c.args.to c.if-from-to.place c.args.used c.requires.1 t (c.cut_out.ensures.shown y c.requires.1 c.requires.2 t.spot) g.there by in
    (y2, a.shown, c.cut_out.ensures.over y c.requires.1 c.requires.2 t.spot, subst (λ (z : Packet). Gap y2 c.if-from-to.place.index c.if-from-to.place.at (width z) (c.args.used - (c.args.after.at - c.args.from.at))) (sym (g.packet t.item t.there)) a.gap)

held : (c : goal.After-put_between-done) (y : Telegram) → IsShown c.args.bits.now y → IsOver c.args.edited.now y → Goes y c.args.tag c.args.packet.now c.args.from c.args.after c.args.to c.args.used →
    IsShown c.put_between-done.new.bits (with_packets y (moved_to c.args.from.index c.args.to.index (c.args.tag, c.args.packet.now) y.packets))
    × IsOver c.put_between-done.new.edited (with_packets y (moved_to c.args.from.index c.args.to.index (c.args.tag, c.args.packet.now) y.packets))
held c y s o g =
    let t = goes_from c.args.bits.now y c.args.tag c.args.packet.now c.args.from c.args.after c.args.to c.args.used s g in
    let by : Nearer c.args.from.index c.args.to c.if-from-to.place (c.args.after.at - c.args.from.at) = elim c.if-from-to.branch [ then-from-to w ↦ nearer_below c.args.from.index _ c.args.to c.if-from-to.place w.if-from-to.true w.place-is | else-from-to w ↦ inr (w.if-from-to.false, w.place-is) ] in
    moved c.args.bits.now c.cut_out.new.bits c.put_between-done.new.bits c.cut_out.new.edited c.put_between-done.new.edited y c.args.tag c.args.packet.now c.args.from c.args.after c.args.to c.if-from-to.place c.args.used c.put_between-done.result s g
    (c.cut_out.ensures.shown y s o t.spot) (c.cut_out.ensures.over y s o t.spot) by c.put_between-done.ensures.shown c.put_between-done.ensures.over (c.put_between-done.ensures.room c.cut_out.ensures.spare)

pub returns-clause-shown : goal.returns-clause-shown
returns-clause-shown c = λ y s o g. (held c y s o g).0

pub returns-clause-over : goal.returns-clause-over
returns-clause-over c = λ y s o g. (held c y s o g).1
