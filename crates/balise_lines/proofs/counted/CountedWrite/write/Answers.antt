use Rattle.std.proofs.Common.{rules}
use Rattle.balise_lines.proofs.counted.CountedWrite.write.Goals as goal

pub returns-else-is_failure-clause-count : goal.returns-else-is_failure-clause-count
returns-else-is_failure-clause-count c = search rules
