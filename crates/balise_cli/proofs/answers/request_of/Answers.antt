use Rattle.std.proofs.Common.{sym}
use Rattle.balise_cli.proofs.Answered.{limit_refused, read_refused}
use Rattle.balise_cli.proofs.answers.request_of.Goals as goal

pub returns-then-is_worn-clause-fault : goal.returns-then-is_worn-clause-fault
returns-then-is_worn-clause-fault c = limit_refused c.args.line.now c.args.session.now.state c.refusal_at_limit.result (sym c.if-is_worn.ensures) c.refusal_at_limit.ensures

pub returns-clause-fault : goal.returns-clause-fault
returns-clause-fault c = read_refused c.args.line.now c.args.session.now.state c.read_request.result (sym c.if-is_worn.ensures) c.read_request.ensures.fault c.read_request.ensures.memory
