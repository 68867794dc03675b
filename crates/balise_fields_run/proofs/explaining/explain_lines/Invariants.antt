use Rattle.std.proofs.Common.{◌≡◌, ◌-◌}
use Rattle.balise_lines.specs.Reading.{OverAtEnd, place_of}
use Rattle.balise_fields_run.proofs.ExplainedRuns.{IsExplainedSoFar}
use Rattle.balise_fields_run.proofs.explaining.explain_lines.Given as goal

abbrev pub invariant-lines : goal.invariant-lines
invariant-lines g l = (l.reader.failed ≡ l.fn.reader.failed) × (l.writer.failed ≡ l.fn.writer.failed) × OverAtEnd l.lines (g.R.Read.remaining l.reader.inner)
    × IsExplainedSoFar (g.R.Read.remaining l.fn.reader.inner) (g.W.Write.contents l.fn.writer.inner) l.lines (g.R.Read.remaining l.reader.inner) (g.W.Write.contents l.writer.inner) l.refused

abbrev pub decreases-lines : goal.decreases-lines
decreases-lines g l = 67108866 - place_of l.lines
