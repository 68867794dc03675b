use Rattle.std.proofs.Common.{Err, ap}
use Rattle.balise_cli.proofs.Endings.{failed_ahead, long_ahead}
use Rattle.balise_cli.proofs.phases.next.Goals as goal

pub returns-in-Err-TooLong-clause-fault : goal.returns-in-Err-TooLong-clause-fault
returns-in-Err-TooLong-clause-fault g c = λ p asked had old now writes go.
    let is = ap Err c.in-Err-TooLong.field-0-is in
    long_ahead asked had old now p c.args.lines.now c.next.new.self (g.R.Read.remaining c.args.reader.now.inner) (g.R.Read.remaining c.next.new.reader.inner) go c.in-Err-TooLong.ensures.kept c.requires.over
    c.args.reader.now.failed c.next.new.reader.failed writes (c.in-Err-TooLong.ensures.long is) c.in-Err-TooLong.ensures.first (c.in-Err-TooLong.ensures.uncounted is)

pub returns-in-Err-Read-clause-fault : goal.returns-in-Err-Read-clause-fault
returns-in-Err-Read-clause-fault g c = λ p asked had old now writes go.
    let is = ap Err c.in-Err-Read.field-0-is in
    failed_ahead asked had old now p c.args.lines.now c.next.new.self (g.R.Read.remaining c.args.reader.now.inner) (g.R.Read.remaining c.next.new.reader.inner) go c.in-Err-Read.ensures.kept c.requires.over
    c.args.reader.now.failed c.next.new.reader.failed writes (c.in-Err-Read.ensures.short is).1.0 (c.in-Err-Read.ensures.cause is)
