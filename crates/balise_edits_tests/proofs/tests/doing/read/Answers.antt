use Rattle.balise_edit_laws.proofs.PlansRead.{plan_read}
use Rattle.balise_edits_tests.proofs.tests.doing.read.Goals as goal

pub returns : goal.returns
returns g c n h =
    let ok = rw c.expect.ensures at c.read.ensures.ok in
    (plan_read _ c.expect.result.groups ok.0).1 n
