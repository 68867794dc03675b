-- The packets of a telegram are sent as the items of a list.
use Rattle.std.proofs.Common.{◌≡◌, ◌∙◌, Bool, ap, subst, rules}
use Rattle.std.proofs.lemmas.Result.{on_ok_weaker}
use Rattle.serde_json.specs.Data.{Data}
use Rattle.serde_json.specs.Events.{SendsValue}
use Rattle.balise_rules.specs.Telegram.{version_of}
use Rattle.balise_layout.specs.Collected.{all_keyed}
use Rattle.balise_view.specs.Given.{fields_data, packet_data}
use Rattle.balise_view.proofs.Found.{found_data}
use Rattle.balise_view.proofs.Sent.{all_sent, one_sent}
use Rattle.balise_view.proofs.telegram.send_packets.Goals as goal

pub loop-packet-preserved : goal.loop-packet-preserved
loop-packet-preserved g c =
    let written = g.S.Serializer.written in
    let y = c.args.telegram.now in
    let x = c.in-Some.packet in
    let fs = all_keyed c.as_slice.result.now in
    let told : fs ≡ x.fields = search rules in
    let shown : fields_data c.is_known.result fs ≡ packet_data (version_of y) x = ap (λ (k : Bool). fields_data k fs)
    c.is_known.ensures ∙ found_data _ _ _ fs x c.version-version.ensures c.number.ensures told in
    one_sent _ _ _ _ (c.in-Some.field-0-0, x) _ _ _ c.in-Some.ensures.steps c.loop-packet.invariant
    (subst (λ (d : Data). SendsValue d (written c.loop-packet.out) (written c.serialize.new.out)) shown
    c.in_ok-serialize.ensures)

pub returns : goal.returns
returns g c = on_ok_weaker c.end_seq.result
    (all_sent _ _ _ _ _ _ _ _ c.in-None.ensures.steps.0 c.count.ensures.count c.in_ok-begin_seq.ensures
    c.loop-packet.invariant) c.end_seq.ensures
