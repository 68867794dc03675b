use Rattle.std.proofs.Common.{Err, ap}
use Rattle.balise_fields_run.proofs.next.next.Goals as goal

pub returns-in-Err-TooLong-clause-fault : goal.returns-in-Err-TooLong-clause-fault
returns-in-Err-TooLong-clause-fault g c =
    let is = ap Err c.in-Err-TooLong.field-0-is in
    (c.in-Err-TooLong.ensures.long is, c.in-Err-TooLong.ensures.first, c.in-Err-TooLong.ensures.uncounted is)

pub returns-in-Err-Read-clause-fault : goal.returns-in-Err-Read-clause-fault
returns-in-Err-Read-clause-fault g c =
    let is = ap Err c.in-Err-Read.field-0-is in
    ((c.in-Err-Read.ensures.short is).1.0, c.in-Err-Read.ensures.kept, c.in-Err-Read.ensures.cause is)
