use Rattle.std.proofs.Common.{◌≤◌, codes, length, map, refl, arith}
use Rattle.balise_lines.specs.Writing.{LastFailed}
use Rattle.balise_lines.proofs.PartsWritten.{wrote_none, wrote_more, wrote_some, wrote_all}
use Rattle.balise_text.proofs.TextsBehind.{some_front_of}
use Rattle.balise_text.specs.Texts.{Text, text_of}
use Rattle.balise_text.proofs.Lists.{no_text_left}
use Rattle.balise_cli.specs.PlanTexts.{group_lines, telegram_line}
use Rattle.balise_cli.proofs.Causes.{call_failed}
use Rattle.balise_text.specs.Printing.{reason_of}
use Rattle.balise_cli.proofs.ItemTexts.{text_at, no_text_at}
use Rattle.balise_cli.proofs.printing.plan.put_group.Goals as goal

pub returns-in-Err : goal.returns-in-Err
returns-in-Err g c = call_failed _ _ _ _ _ c.from.ensures (some_front_of LastFailed _ _ (codes "group\n") (text_of (map telegram_line c.args.group.now)) _ _ refl c.in-Err.ensures)

pub loop-pig-init : goal.loop-pig-init
loop-pig-init g c =
    let text : Text = group_lines (c.args.tag, c.args.group.now) in
    wrote_more _ text text (codes "group\n") (text_of (map telegram_line c.args.group.now)) _ _ _ refl (wrote_none _ text _) c.in_default.ensures

pub returns-in-Err-put_telegram : goal.returns-in-Err-put_telegram
returns-in-Err-put_telegram g c =
    wrote_some (reason_of c.in-Err-put_telegram.fault) _ _ _ _ _ _ _ _ (text_at telegram_line c.args.group.now c.loop-pig.pig (c.in-Some.tag, c.in-Some.telegram.now) c.in-Some.ensures) c.loop-pig.invariant c.in-Err-put_telegram.ensures

pub loop-pig-preserved : goal.loop-pig-preserved
loop-pig-preserved g c =
    wrote_more _ _ _ _ _ _ _ _ (text_at telegram_line c.args.group.now c.loop-pig.pig (c.in-Some.tag, c.in-Some.telegram.now) c.in-Some.ensures) c.loop-pig.invariant c.in_default-put_telegram.ensures

pub returns-after-loop-pig : goal.returns-after-loop-pig
returns-after-loop-pig g c =
    let past : length c.args.group.now ≤ c.loop-pig.pig = omega (arith, c.loop-pig-test.false, c.count-pig-end.ensures) in
    wrote_all _ _ _ _ _ (no_text_left telegram_line c.args.group.now c.loop-pig.pig past) c.loop-pig.invariant

pub returns-in_default-at : goal.returns-in_default-at
returns-in_default-at g c = wrote_all _ _ _ _ _ (no_text_at telegram_line c.args.group.now c.loop-pig.pig c.in_default-at.ensures) c.loop-pig.invariant
