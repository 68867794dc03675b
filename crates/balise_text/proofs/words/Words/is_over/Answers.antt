use Rattle.balise_text.proofs.Taking.{over_is}
use Rattle.balise_text.proofs.words.Words.is_over.Goals as goal

pub returns : goal.returns
returns c = over_is c.args.self
