use Rattle.balise_edit_laws.proofs.PlansRead.{plan_read}
use Rattle.balise_facts_tests.proofs.tests.sessions.plan_of.Goals as goal

pub returns-clause-untagged : goal.returns-clause-untagged
returns-clause-untagged g c n =
    let ok = rw c.expect.ensures at c.read.ensures.ok in
    (plan_read _ c.expect.result.groups ok.0).1 n
