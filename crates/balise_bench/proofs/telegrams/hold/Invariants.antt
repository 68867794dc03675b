use Rattle.balise_lines.specs.Reading.{OverAtEnd}
use Rattle.balise_bench.proofs.telegrams.hold.Given as goal

abbrev pub invariant-lines : goal.invariant-lines
invariant-lines g l = OverAtEnd l.lines (g.R.Read.remaining l.reader.inner)
