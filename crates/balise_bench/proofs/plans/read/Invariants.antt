use Rattle.std.proofs.Common.{◌≡◌}
use Rattle.balise_lines.specs.Reading.{OverAtEnd}
use Rattle.balise_bench.proofs.plans.read.Given as goal

abbrev pub invariant-lines : goal.invariant-lines
invariant-lines g l = OverAtEnd l.lines (g.R.Read.remaining l.reader.inner) × (l.plan.changes ≡ 0)
