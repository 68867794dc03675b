use Rattle.std.proofs.Common.{drop}
use Rattle.balise_lines.proofs.PartsWritten.{Wrote}
use Rattle.balise_cli.specs.PlanTexts.{view_text}
use Rattle.balise_cli.proofs.printing.view.put_view.Given as goal

abbrev pub invariant-loop-place : goal.invariant-loop-place
invariant-loop-place g l = Wrote g.W.Write.contents (view_text l.plan.groups) (view_text (drop l.place l.plan.groups)) l.fn.writer l.writer
