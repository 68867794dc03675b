use Rattle.std.proofs.Common.{rules}
use Rattle.balise_lines.proofs.counted.Counted.failed.Goals as goal

pub returns : goal.returns
returns c = search rules
