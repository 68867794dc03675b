-- The tags are those of the session's plan, and a fault of the writer is that of the run.
use Rattle.balise_facts.proofs.Sequences.{call_failed}
use Rattle.balise_facts.proofs.printing.put_told.Goals as goal

pub returns-in-Ok : goal.returns-in-Ok
returns-in-Ok g c = rw c.in-Tags.is (rw c.plan.ensures at c.in-Ok.ensures)

pub returns-in-Err : goal.returns-in-Err
returns-in-Err g c = rw c.in-Tags.is (call_failed c.from.ensures (rw c.plan.ensures at c.in-Err.ensures))
