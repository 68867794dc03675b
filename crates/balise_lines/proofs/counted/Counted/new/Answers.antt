use Rattle.std.proofs.Common.{rules}
use Rattle.balise_lines.proofs.counted.Counted.new.Goals as goal

pub returns-clause-failed : goal.returns-clause-failed
returns-clause-failed c = search rules
