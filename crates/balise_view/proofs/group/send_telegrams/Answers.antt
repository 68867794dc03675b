-- The telegrams of a group are sent as the items of a list.
use Rattle.std.proofs.Common.{◌≤◌, ℕ, length, sym, arith}
use Rattle.std.proofs.lemmas.List.{drop_all}
use Rattle.std.proofs.lemmas.Result.{on_ok_weaker}
use Rattle.balise_rules.specs.Telegram.{Telegram}
use Rattle.balise_plan.proofs.groups.Copied.{no-more}
use Rattle.balise_plan.proofs.GroupLists.{drop_found}
use Rattle.balise_view.proofs.Sent.{all_sent, one_sent}
use Rattle.balise_view.proofs.group.send_telegrams.Goals as goal
use Rattle.balise_view.proofs.group.send_telegrams.Goals.{else-loop-pig-test, then-loop-pig-test+in_default}

pub loop-pig-preserved : goal.loop-pig-preserved
loop-pig-preserved g c =
    let y : ℕ × Telegram = (c.in-Some.field-0-0, c.in-Some.telegram.now) in
    let next = drop_found c.args.group.now c.loop-pig.pig y (sym c.in-Some.ensures) in
    one_sent _ _ _ _ y _ _ _ next c.loop-pig.invariant c.in_ok-serialize.ensures

pub returns : goal.returns
returns g c =
    let end : length c.args.group.now ≤ c.loop-pig.pig = elim c.loop-pig-test.branch [
      | else-loop-pig-test w ↦ omega (arith, c.count-count.ensures)
      | then-loop-pig-test+in_default w ↦ no-more c.args.group.now c.loop-pig.pig (sym w.in_default.ensures)
    ] in
    let none = drop_all c.loop-pig.pig c.args.group.now end in
    on_ok_weaker c.end_seq.result
    (all_sent _ _ _ _ _ _ _ _ none c.count-count.ensures c.in_ok-begin_seq.ensures c.loop-pig.invariant)
    c.end_seq.ensures
