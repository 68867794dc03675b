use Rattle.balise_lines.specs.Writing.{LastFailed}
use Rattle.balise_lines.proofs.PartsWritten.{wrote_none, wrote_more, wrote_some}
use Rattle.balise_text.specs.Reviews.{review_line}
use Rattle.balise_text.proofs.Lists.{text_left}
use Rattle.balise_cli.proofs.answers.put_reviews.Goals as goal

pub loop-line-init : goal.loop-line-init
loop-line-init g c = wrote_none _ _ _

pub loop-line-preserved : goal.loop-line-preserved
loop-line-preserved g c = wrote_more _ _ _ _ _ _ _ _ (text_left review_line c.args.lines.now c.loop-line.line-index _ c.loop-line-test.true) c.loop-line.invariant c.in_default.ensures

pub returns-in-Err : goal.returns-in-Err
returns-in-Err g c = wrote_some LastFailed _ _ _ _ _ _ _ _ (text_left review_line c.args.lines.now c.loop-line.line-index _ c.loop-line-test.true) c.loop-line.invariant c.in-Err.ensures
