use Rattle.std.proofs.Common.{rules}
use Rattle.balise_plan.proofs.one_or_more.Held.at_mut.Goals as goal

pub returns-in-Listed : goal.returns-in-Listed
returns-in-Listed g c = rw c.in-Listed.is (let e = rw c.in-Listed.is at c.index_mut.ensures in search rules)
