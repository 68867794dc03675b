-- The lines of groups are written one after another.
use Rattle.std.proofs.Common.{◌≤◌, length, arith}
use Rattle.balise_lines.proofs.PartsWritten.{wrote_none, wrote_more, wrote_some, wrote_all}
use Rattle.balise_text.proofs.Lists.{no_text_left}
use Rattle.balise_facts.specs.TagTexts.{group_lines}
use Rattle.balise_facts.proofs.Sequences.{no_text_at, text_at}
use Rattle.balise_facts.proofs.tags.put_tags.Goals as goal

pub loop-place-init : goal.loop-place-init
loop-place-init g c = wrote_none _ _ _

pub returns-in-Err : goal.returns-in-Err
returns-in-Err g c =
    let next = text_at group_lines c.args.plan.now.groups c.loop-place.place _ c.in-Some.ensures in
    wrote_some _ _ _ _ _ _ _ _ _ next c.loop-place.invariant c.in-Err.ensures

pub loop-place-preserved : goal.loop-place-preserved
loop-place-preserved g c =
    let next = text_at group_lines c.args.plan.now.groups c.loop-place.place _ c.in-Some.ensures in
    wrote_more _ _ _ _ _ _ _ _ next c.loop-place.invariant c.in_default-put_group_lines.ensures

pub returns-after-loop-place : goal.returns-after-loop-place
returns-after-loop-place g c =
    let past : length c.args.plan.now.groups ≤ c.loop-place.place = omega
    (arith, c.loop-place-test.false, c.count-place-end.ensures.count) in
    wrote_all _ _ _ _ _ (no_text_left group_lines c.args.plan.now.groups c.loop-place.place past) c.loop-place.invariant

pub returns-in_default : goal.returns-in_default
returns-in_default g c =
    wrote_all _ _ _ _ _ (no_text_at group_lines c.args.plan.now.groups c.loop-place.place c.in_default.ensures)
    c.loop-place.invariant
