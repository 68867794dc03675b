-- A group is sent as its identity and its telegrams.
use Rattle.std.proofs.Common.{ap}
use Rattle.std.proofs.lemmas.Result.{on_ok_weaker}
use Rattle.balise_rules.specs.declared.identity.Id.{Id}
use Rattle.balise_view.proofs.Sent.{number_member}
use Rattle.balise_view.proofs.group.DescribedGroupSerialize.serialize.Goals as goal

pub returns : goal.returns
returns g c =
    let country = ap (λ (i : Id). i.country) c.identity-id.ensures in
    let number = ap (λ (i : Id). i.number) c.identity-id.ensures in
    on_ok_weaker c.end_map.result (λ ended. (
      _,
      c.in_ok-begin_map.ensures,
      number_member _ _ _ _ country c.in_ok-key.ensures c.in_ok-serialize.ensures
          (number_member _ _ _ _ number c.in_ok-key-2.ensures c.in_ok-serialize-2.ensures
          (_, _, c.in_ok-key-3.ensures, c.in_ok-send_telegrams.ensures, ended)),
    )) c.end_map.ensures
