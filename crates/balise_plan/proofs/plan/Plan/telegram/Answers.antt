use Rattle.std.proofs.Common.{rules}
use Rattle.balise_plan.proofs.plan.Plan.telegram.Goals as goal

pub returns-in-Some-clause-found : goal.returns-in-Some-clause-found
returns-in-Some-clause-found c = search rules

pub returns-in-None-clause-found : goal.returns-in-None-clause-found
returns-in-None-clause-found c = search rules
