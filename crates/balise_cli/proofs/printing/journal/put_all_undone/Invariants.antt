use Rattle.std.proofs.Common.{drop, map}
use Rattle.balise_cli.specs.PlanTexts.{undone_line}
use Rattle.balise_text.specs.Texts.{text_of}
use Rattle.balise_lines.proofs.PartsWritten.{Wrote}
use Rattle.balise_cli.proofs.printing.journal.put_all_undone.Given as goal

abbrev pub invariant-loop-serial : goal.invariant-loop-serial
invariant-loop-serial g l = Wrote g.W.Write.contents (text_of (map undone_line l.serials)) (text_of (map undone_line (drop l.serial-index l.serials))) l.fn.writer l.writer
