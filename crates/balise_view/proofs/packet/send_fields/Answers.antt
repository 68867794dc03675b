-- The fields of a packet are sent as the items of a list.
use Rattle.std.proofs.Common.{◌≡◌, length, ap, rules}
use Rattle.std.proofs.lemmas.List.{drop_all, length-map}
use Rattle.std.proofs.lemmas.Result.{on_ok_weaker}
use Rattle.balise_layout.specs.Collected.{all_keyed}
use Rattle.balise_view.proofs.Sent.{all_sent}
use Rattle.balise_view.proofs.packet.send_fields.Goals as goal

pub returns : goal.returns
returns g c =
    let xs = c.args.fields.now in
    let many : length xs ≡ length (all_keyed xs) = search (rules, length-map) in
    let none = ap all_keyed (drop_all c.loop-var.var-index xs c.loop-var-test.false) in
    on_ok_weaker c.end_seq.result
    (all_sent _ _ _ _ _ _ _ _ none many c.in_ok-begin_seq.ensures c.loop-var.invariant) c.end_seq.ensures
