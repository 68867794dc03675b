use Rattle.std.proofs.Common.{◌≡◌, ◌∙◌, ℕ, suc, length, slice_get, Some, ap, sym, subst, arith}
use Rattle.balise_rules.specs.declared.variable.Var.TheVariants.{QDir}
use Rattle.balise_rules.specs.Back.{with_packets}
use Rattle.balise_rules.specs.Edits.{exchanged}
use Rattle.balise_rules.specs.Packet.{value, width, Packet}
use Rattle.balise_rules.specs.Telegram.{Telegram}
use Rattle.balise_rules.proofs.Tests.{tag_test}
use Rattle.balise_layout.specs.Setting.{turned}
use Rattle.balise_layout.proofs.Setting.{width-with_field}
use Rattle.balise_telegram.specs.Setting.{with_changed}
use Rattle.balise_telegram.specs.Shown.{IsPlace}
use Rattle.balise_telegram.proofs.Turning.{at_next, each-all, each_to, each_to-length, one-step, place_kept, place_of_next, some_at}
use Rattle.balise_telegram.proofs.telegram.Telegram.flip_dirs.Goals as goal

pub returns-in_default : goal.returns-in_default
returns-in_default c =
    let ps = c.args.self.now.packets in
    let i = c.packets.place.index in
    let same : length c.packets.self.packets ≡ length ps = ap (λ (y : Telegram). length y.packets) c.packets.invariant.0 ∙ each_to-length (λ _ x. turned x) i ps in
    c.packets.invariant.0 ∙ ap (with_packets c.args.self.now) (each-all (λ _ x. turned x) i ps (omega (arith, same, c.in_default.ensures.none)))

pub flip_dir_there-requires : goal.flip_dir_there-requires
flip_dir_there-requires c =
    let ps = c.packets.self.packets in
    let p = c.packets.place in
    let x = some_at ps p.index c.in-Some.ensures.next.2 in
    (x.0.0, place_of_next 50 p.at ps p.index x.0 c.in-Some.ensures.tags x.1 (omega (arith, c.packets.invariant.1.1)))

pub packets-smaller : goal.packets-smaller
packets-smaller c =
    let ps = c.args.self.now.packets in
    let same : length c.packets.self.packets ≡ length ps = ap (λ (y : Telegram). length y.packets) c.packets.invariant.0 ∙ each_to-length (λ _ x. turned x) c.packets.place.index ps in
    omega (arith, same, c.in-Some.ensures.next.0, c.in-Some.ensures.next.2)

pub packets-preserved : goal.packets-preserved
packets-preserved c =
    let y = c.args.self.now in
    let now = c.packets.self in
    let p = c.packets.place in
    let next = c.in-Some.next in
    let x = some_at now.packets p.index c.in-Some.ensures.next.2 in
    let there = place_of_next 50 p.at now.packets p.index x.0 c.in-Some.ensures.tags x.1 (omega (arith, c.packets.invariant.1.1)) in
    let is : slice_get y.packets p.index ≡ Some x.0 = sym (at_next (λ _ z. turned z) p.index y.packets) ∙ ap (λ (t : Telegram). slice_get t.packets p.index) (sym c.packets.invariant.0) ∙ x.1 in
    let step = c.flip_dir_there.ensures x.0.0 there in
    let one = one-step tag_test turned p.index y.packets x.0 c.packed-packed.ensures.tags is in
    let count : suc p.index ≡ next.index = omega (arith, c.in-Some.ensures.next.0) in
    let wide : (z : Packet) → width (turned z) ≡ width z = λ z. width-with_field QDir 0 (exchanged 0 1 (value QDir 0 z.fields)) z in (
      step ∙ ap (with_changed x.0.0 turned) c.packets.invariant.0 ∙ ap (with_packets y) one ∙ ap (λ (n : ℕ). with_packets y (each_to (λ _ z. turned z) n y.packets)) count,
      subst (λ (t : Telegram). IsPlace t next) (sym step) (place_kept x.0.0 turned wide now next c.in-Some.ensures.next.1),
    )
