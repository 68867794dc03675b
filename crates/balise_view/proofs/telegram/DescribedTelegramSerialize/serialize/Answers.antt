-- A telegram is sent as numbers and its packets.
use Rattle.std.proofs.lemmas.Result.{on_ok_weaker}
use Rattle.balise_view.proofs.Sent.{number_member}
use Rattle.balise_view.proofs.telegram.DescribedTelegramSerialize.serialize.Goals as goal

pub returns : goal.returns
returns g c = on_ok_weaker c.end_map.result (λ ended. (
  _,
  c.in_ok-begin_map.ensures,
  number_member _ _ _ _ c.width.ensures.width c.in_ok-key.ensures c.in_ok-serialize.ensures
      (number_member _ _ _ _ c.head_value.ensures c.in_ok-key-2.ensures c.in_ok-serialize-2.ensures
      (number_member _ _ _ _ c.head_value-2.ensures c.in_ok-key-3.ensures c.in_ok-serialize-3.ensures
      (number_member _ _ _ _ c.version.ensures c.in_ok-key-4.ensures c.in_ok-serialize-4.ensures (
        _,
        _,
        c.in_ok-key-5.ensures,
        c.in_ok-send_packets.ensures,
        number_member _ _ _ _ c.head_value-3.ensures c.in_ok-key-6.ensures c.in_ok-serialize-5.ensures
            (number_member _ _ _ _ c.used.ensures c.in_ok-key-7.ensures c.in_ok-serialize-6.ensures ended),
      )))),
)) c.end_map.ensures
