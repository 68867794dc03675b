use Rattle.std.proofs.Common.{drop, map}
use Rattle.balise_text.specs.Reviews.{review_line}
use Rattle.balise_text.specs.Texts.{text_of}
use Rattle.balise_lines.proofs.PartsWritten.{Wrote}
use Rattle.balise_cli.proofs.answers.put_reviews.Given as goal

abbrev pub invariant-loop-line : goal.invariant-loop-line
invariant-loop-line g l = Wrote g.W.Write.contents (text_of (map review_line l.lines)) (text_of (map review_line (drop l.line-index l.lines))) l.fn.writer l.writer
