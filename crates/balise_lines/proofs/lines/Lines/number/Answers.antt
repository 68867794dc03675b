use Rattle.std.proofs.Common.{rules}
use Rattle.balise_lines.proofs.lines.Lines.number.Goals as goal

pub returns : goal.returns
returns c = search rules
