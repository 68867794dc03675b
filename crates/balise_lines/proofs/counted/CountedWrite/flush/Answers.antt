use Rattle.std.proofs.Common.{rules}
use Rattle.balise_lines.proofs.counted.CountedWrite.flush.Goals as goal

pub returns-then-is_err-clause-count : goal.returns-then-is_err-clause-count
returns-then-is_err-clause-count c = search rules

pub returns-else-is_err-clause-count : goal.returns-else-is_err-clause-count
returns-else-is_err-clause-count c = search rules
