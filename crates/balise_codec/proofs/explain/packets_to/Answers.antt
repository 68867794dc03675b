-- One packet more is read where those before it end.
use Rattle.std.proofs.Common.{◌≡◌, ◌∙◌, ◌+◌, ◌<◌, ◌++◌, ◌∷◌, [], ℕ, List, refl, ap, sym, subst, length, take, get_or, arith}
use Rattle.std.proofs.lemmas.List.{take_more, take_all}
use Rattle.balise_rules.specs.declared.tag.Tag.{Tag}
use Rattle.balise_rules.specs.declared.tag.Tag.TheVariants.{Base}
use Rattle.balise_rules.specs.Packet.{Packet, width}
use Rattle.balise_rules.specs.Telegram.{used, packets_bits}
use Rattle.balise_rules.proofs.TelegramShown.{used_is}
use Rattle.balise_telegram.proofs.PacketsRead.{used-more}
use Rattle.balise_codec.specs.declared.explain.PacketFields.{PacketFields}
use Rattle.balise_codec.specs.Places.{IsPlaced, ArePlaced}
use Rattle.balise_codec.proofs.Placing.{placed_more, read_there}
use Rattle.balise_codec.proofs.explain.packets_to.Goals as goal

none : Tag × Packet
none = (Base 0, record { fields = []; rest = [] })

pub loop-init : goal.loop-init
loop-init c = λ read stop. (refl, subst (λ (x : List PacketFields). ArePlaced 50 [] x) (sym c.new-packets.ensures.items) tt)

pub explain_packet-requires : goal.explain_packet-requires
explain_packet-requires c =
    let r = c.requires in
    let i = c.loop.invariant r.0 r.1 in
    let h : c.loop.counter < length r.0 = omega (arith, c.loop-test.true, r.1.0) in
    (_, _, read_there c.args.version c.args.bits.now c.args.stop.at c.loop.counter c.loop.at r.0 none r.1.1 h i.0)

pub loop-preserved : goal.loop-preserved
loop-preserved c = λ read stop.
    let i = c.loop.invariant read stop in
    let h : c.loop.counter < length read = omega (arith, c.loop-test.true, stop.0) in
    let x = get_or read c.loop.counter none in
    let before = take c.loop.counter read in
    let there = c.in_ok-packet.ensures.ok x.1 _ (read_there c.args.version c.args.bits.now c.args.stop.at c.loop.counter c.loop.at read none stop.1 h i.0) in
    let more : take (c.loop.counter + 1) read ≡ before ++ x ∷ [] = take_more read c.loop.counter none h in
    let all : used (take (c.loop.counter + 1) read) ≡ used before + width x.1 = ap used more ∙ used-more before x.0 x.1 in
    let place : c.loop.at ≡ 50 + length (packets_bits before) = omega (arith, i.0, used_is before) in
    let own = subst (λ (k : ℕ). IsPlaced k x.1 c.in_ok-packet.packet) place there.0 in
    let placed = placed_more 50 before c.loop.packets.items x c.in_ok-packet.packet i.1 own in (
      omega (arith, there.1, i.0, all),
      subst (λ (ps : List (Tag × Packet)). ArePlaced 50 ps c.push.new.self.items) (sym more) (subst (λ (xs : List PacketFields). ArePlaced 50 (before ++ x ∷ []) xs) (sym c.in_ok-push.ensures.items) placed),
    )

pub returns-clause-ok : goal.returns-clause-ok
returns-clause-ok c = λ read stop.
    let i = c.loop.invariant read stop in
    let all : take c.loop.counter read ≡ read = take_all c.loop.counter read (omega (arith, c.loop-test.false, stop.0)) in
    subst (λ (ps : List (Tag × Packet)). ArePlaced 50 ps c.loop.packets.items) all i.1
