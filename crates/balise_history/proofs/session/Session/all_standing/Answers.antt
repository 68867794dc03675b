use Rattle.std.proofs.Common.{rules}
use Rattle.balise_history.proofs.session.Session.all_standing.Goals as goal

pub returns-in-Some-clause-some : goal.returns-in-Some-clause-some
returns-in-Some-clause-some c = search rules

pub returns-in-Some-clause-entries : goal.returns-in-Some-clause-entries
returns-in-Some-clause-entries c = search rules
