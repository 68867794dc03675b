use Rattle.std.proofs.Common.{rules}
use Rattle.balise_history.proofs.session.Session.is_worn.Goals as goal

pub returns : goal.returns
returns c = search rules
