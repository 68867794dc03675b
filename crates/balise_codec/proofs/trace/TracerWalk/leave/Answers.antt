use Rattle.balise_codec.proofs.Tracing.{trace_done}
use Rattle.balise_codec.proofs.trace.TracerWalk.leave.Goals as goal

pub returns : goal.returns
returns c = trace_done c.args.self.now
