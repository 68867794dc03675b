use Rattle.std.proofs.Common.{rules}
use Rattle.balise_edits.proofs.applying.apply.Goals as goal

pub returns-in-Ok : goal.returns-in-Ok
returns-in-Ok c = search rules
