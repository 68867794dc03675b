-- The first line, and then the facts.
use Rattle.balise_text.specs.Printing.{reason_of}
use Rattle.balise_facts.proofs.Sequences.{begun_first, call_failed, done_next}
use Rattle.balise_facts.proofs.printing.put_facts.Goals as goal

pub returns-in-Err : goal.returns-in-Err
returns-in-Err g c = call_failed c.from.ensures (begun_first _ c.in-Err.ensures)

pub returns : goal.returns
returns g c = done_next reason_of _ c.put_told.result _ _ _ _ _ c.in_default.ensures c.put_told.ensures
