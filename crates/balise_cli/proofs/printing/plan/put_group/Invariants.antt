use Rattle.std.proofs.Common.{drop, map}
use Rattle.balise_text.specs.Texts.{text_of}
use Rattle.balise_lines.proofs.PartsWritten.{Wrote}
use Rattle.balise_cli.specs.PlanTexts.{group_lines, telegram_line}
use Rattle.balise_cli.proofs.printing.plan.put_group.Given as goal

abbrev pub invariant-loop-pig : goal.invariant-loop-pig
invariant-loop-pig g l = Wrote g.W.Write.contents (group_lines (l.fn.tag, l.group)) (text_of (map telegram_line (drop l.pig l.group))) l.fn.writer l.writer
