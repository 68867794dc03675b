-- The lines of telegrams are written one after another, by their places.
use Rattle.std.proofs.Common.{◌≤◌, length, sym, arith}
use Rattle.balise_lines.proofs.PartsWritten.{wrote_none, wrote_more, wrote_some, wrote_all}
use Rattle.balise_plan.proofs.groups.Copied.{no-more}
use Rattle.balise_facts.proofs.TagLines.{telegram_left, no_telegram_left}
use Rattle.balise_facts.proofs.tags.put_telegrams.Goals as goal

pub loop-pig-init : goal.loop-pig-init
loop-pig-init g c = wrote_none _ _ _

pub returns-after-loop-pig : goal.returns-after-loop-pig
returns-after-loop-pig g c =
    let past : length c.args.group.now ≤ c.loop-pig.pig = omega
    (arith, c.loop-pig-test.false, c.count-pig-end.ensures) in
    wrote_all _ _ _ _ _ (no_telegram_left _ _ _ past) c.loop-pig.invariant

pub returns-in-Err : goal.returns-in-Err
returns-in-Err g c =
    wrote_some _ _ _ _ _ _ _ _ _ (telegram_left _ _ _ _ c.in-Some.ensures) c.loop-pig.invariant c.in-Err.ensures

pub returns-in_default : goal.returns-in_default
returns-in_default g c =
    wrote_all _ _ _ _ _ (no_telegram_left c.args.id c.loop-pig.pig c.args.group.now
    (no-more _ _ (sym c.in_default.ensures))) c.loop-pig.invariant

pub loop-pig-preserved : goal.loop-pig-preserved
loop-pig-preserved g c =
    wrote_more _ _ _ _ _ _ _ _ (telegram_left _ _ _ _ c.in-Some.ensures) c.loop-pig.invariant
    c.in_default-put_telegram_lines.ensures
