use Rattle.std.proofs.Common.{◌≤◌, length, arith}
use Rattle.balise_lines.proofs.PartsWritten.{wrote_none, wrote_more, wrote_some, wrote_all}
use Rattle.balise_rules.specs.declared.tag.Tag.{Tag}
use Rattle.balise_rules.specs.Plan.{Group}
use Rattle.balise_text.specs.Texts.{Text}
use Rattle.balise_text.proofs.Lists.{no_text_left}
use Rattle.balise_view.specs.View.{group_text}
use Rattle.balise_cli.specs.PlanTexts.{with_end}
use Rattle.balise_text.specs.Printing.{reason_of}
use Rattle.balise_cli.proofs.ItemTexts.{text_at, no_text_at}
use Rattle.balise_cli.proofs.printing.view.put_view.Goals as goal

abbrev line_of : Tag × Group → Text
line_of y = with_end (group_text y.1)

pub loop-place-init : goal.loop-place-init
loop-place-init g c = wrote_none _ _ _

pub returns-in-Err : goal.returns-in-Err
returns-in-Err g c =
    wrote_some (reason_of c.in-Err.fault) _ _ _ _ _ _ _ _ (text_at line_of c.args.plan.now.groups c.loop-place.place (c.in-Some.field-0-0, c.in-Some.group.now) c.in-Some.ensures) c.loop-place.invariant c.in-Err.ensures

pub loop-place-preserved : goal.loop-place-preserved
loop-place-preserved g c =
    wrote_more _ _ _ _ _ _ _ _ (text_at line_of c.args.plan.now.groups c.loop-place.place (c.in-Some.field-0-0, c.in-Some.group.now) c.in-Some.ensures) c.loop-place.invariant c.in_default-put_group.ensures

pub returns-after-loop-place : goal.returns-after-loop-place
returns-after-loop-place g c =
    let past : length c.args.plan.now.groups ≤ c.loop-place.place = omega (arith, c.loop-place-test.false, c.count-place-end.ensures.count) in
    wrote_all _ _ _ _ _ (no_text_left line_of c.args.plan.now.groups c.loop-place.place past) c.loop-place.invariant

pub returns-in_default : goal.returns-in_default
returns-in_default g c = wrote_all _ _ _ _ _ (no_text_at line_of c.args.plan.now.groups c.loop-place.place c.in_default.ensures) c.loop-place.invariant
