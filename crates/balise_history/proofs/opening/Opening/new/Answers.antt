use Rattle.std.proofs.Common.{rules}
use Rattle.balise_history.proofs.opening.Opening.new.Goals as goal

pub new-requires-clause-first : goal.new-requires-clause-first
new-requires-clause-first c = search rules
