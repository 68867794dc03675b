use Rattle.std.proofs.Common.{rules}
use Rattle.balise_lines.proofs.lines.Lines.new.Goals as goal

pub returns-clause-number : goal.returns-clause-number
returns-clause-number c = search rules
