use Rattle.std.proofs.Common.{◌≡◌, [], codes, drop, map, refl, arith}
use Rattle.balise_lines.specs.Writing.{LastFailed}
use Rattle.balise_lines.proofs.PartsWritten.{wrote_none, wrote_more, wrote_some, wrote_all}
use Rattle.balise_text.proofs.TextsBehind.{some_front_of}
use Rattle.balise_text.specs.Texts.{Text, text_of}
use Rattle.balise_text.proofs.Lists.{no_text_left}
use Rattle.balise_cli.specs.PlanTexts.{group_lines, plan_text}
use Rattle.balise_cli.proofs.Causes.{call_failed}
use Rattle.balise_text.specs.Printing.{reason_of}
use Rattle.balise_cli.proofs.ItemTexts.{text_at, no_text_at}
use Rattle.balise_cli.proofs.printing.plan.put_plan.Goals as goal
use Rattle.balise_cli.proofs.printing.plan.put_plan.Goals.{else-loop-place-test, then-loop-place-test+in_default-at}

pub returns-in-Err : goal.returns-in-Err
returns-in-Err g c = call_failed _ _ _ _ _ c.from.ensures (some_front_of LastFailed _ _ (codes "plan 1\n") (text_of (map group_lines c.args.plan.now.groups)) _ _ refl c.in-Err.ensures)

pub loop-place-init : goal.loop-place-init
loop-place-init g c =
    let text : Text = plan_text c.args.plan.now.groups in
    wrote_more _ text text (codes "plan 1\n") (text_of (map group_lines c.args.plan.now.groups)) _ _ _ refl (wrote_none _ text _) c.in_default.ensures

pub returns-in-Err-put_group : goal.returns-in-Err-put_group
returns-in-Err-put_group g c =
    wrote_some (reason_of c.in-Err-put_group.fault) _ _ _ _ _ _ _ _ (text_at group_lines c.args.plan.now.groups c.loop-place.place (c.in-Some.tag, c.in-Some.group.now) c.in-Some.ensures) c.loop-place.invariant c.in-Err-put_group.ensures

pub loop-place-preserved : goal.loop-place-preserved
loop-place-preserved g c =
    wrote_more _ _ _ _ _ _ _ _ (text_at group_lines c.args.plan.now.groups c.loop-place.place (c.in-Some.tag, c.in-Some.group.now) c.in-Some.ensures) c.loop-place.invariant c.in_default-put_group.ensures

pub returns : goal.returns
returns g c =
    let gs = c.args.plan.now.groups in
    let i = c.loop-place.place in
    let none : text_of (map group_lines (drop i gs)) ≡ [] =
    elim c.loop-place-test.branch [
      | else-loop-place-test w ↦ no_text_left group_lines gs i (omega (arith, w.loop-place-test.false, c.count-place-end.ensures.count))
      | then-loop-place-test+in_default-at w ↦ no_text_at group_lines gs i w.in_default-at.ensures
    ]
    in
    wrote_all _ _ _ _ _ none c.loop-place.invariant
