-- Each packet that has its values is added, and the first that hasn't is the fault.
use Rattle.std.proofs.Common.{◌≡◌, ◌++◌, ◌∙◌, ◌∷◌, [], ◌+◌, List, Bool, Some, ap, sym, subst, length, take, append_assoc}
use Rattle.std.proofs.lemmas.Option.{slice_get-get_or}
use Rattle.balise_rules.specs.declared.tag.Tag.{Tag}
use Rattle.balise_rules.specs.declared.tag.Tag.TheVariants.{Base}
use Rattle.balise_rules.specs.Packet.{Packet, bits_of}
use Rattle.balise_rules.specs.Telegram.{packets_bits}
use Rattle.balise_codec.specs.declared.telegram.PacketValues.{PacketValues}
use Rattle.balise_codec.specs.Faults.{fault_of}
use Rattle.balise_codec.specs.Misfits.{first_misfit}
use Rattle.balise_codec.specs.Spelling.{Values, size_of, SpeltBy}
use Rattle.balise_codec.specs.Telegrams.{AreSpelt}
use Rattle.balise_codec.proofs.Composing.{spelt_push, tagged_push, packets_push, take_get}
use Rattle.balise_codec.proofs.telegram.add_packets.Goals as goal

pub returns-in-Err-clause-fault : goal.returns-in-Err-clause-fault
returns-in-Err-clause-fault c = λ e.
    let a = c.at_packet.ensures e in
    let v = c.index-packets-i.result in
    let s = c.loop-i.invariant in
    let items : c.deref.result.now ≡ v.values.items = c.deref.ensures.value in (
      c.loop-i.i,
      c.in-Err.fault,
      a.1,
      record {
        values = v;
        there = slice_get-get_or c.args.packets.now c.loop-i.i v c.loop-i-test.true ∙ ap Some (sym c.index-packets-i.is);
        before = (s.0, s.1);
        none = λ p q. c.in-Err.ensures.none a.0 p (subst (λ (x : Values). SpeltBy c.args.version x v.rest p) (sym items) q);
        reason = c.in-Err.ensures.fault a.0 ∙ ap (λ (x : Values). fault_of (first_misfit c.args.version x) (size_of x v.rest)) items;
      },
    )

pub loop-i-preserved : goal.loop-i-preserved
loop-i-preserved c =
    let v = c.index-packets-i.result in
    let s = c.loop-i.invariant in
    let p = c.in-Ok.packet in
    let one : Tag × Packet = (Base (0 + length s.0), p) in
    let spelt = subst (λ (x : Values). SpeltBy c.args.version x v.rest p) c.deref.ensures.value c.in-Ok.ensures.ok in
    let more = spelt_push c.args.version (take c.loop-i.i c.args.packets.now) s.0 v one s.1 spelt in (
      s.0 ++ one ∷ [],
      subst (λ (x : List PacketValues). AreSpelt c.args.version x (s.0 ++ one ∷ [])) (sym (take_get c.args.packets.now c.loop-i.i v (slice_get-get_or c.args.packets.now c.loop-i.i v c.loop-i-test.true ∙ ap Some (sym c.index-packets-i.is)))) more,
      tagged_push 0 s.0 p s.2,
      c.in_ok-write.ensures.ok ∙ ap (λ (x : List Bool). x ++ bits_of p) s.3 ∙ append_assoc c.args.bits.now (packets_bits s.0) (bits_of p) ∙ ap (λ (x : List Bool). c.args.bits.now ++ x) (sym (packets_push s.0 one)),
    )
