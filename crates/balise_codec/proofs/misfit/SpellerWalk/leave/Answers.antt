use Rattle.balise_codec.proofs.MisfitWalk.{values_done}
use Rattle.balise_codec.proofs.misfit.SpellerWalk.leave.Goals as goal

pub returns : goal.returns
returns c = values_done c.args.self.now
