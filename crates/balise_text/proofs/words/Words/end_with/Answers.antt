use Rattle.balise_text.proofs.Taking.{no_end}
use Rattle.balise_text.proofs.words.Words.end_with.Goals as goal

pub returns-else-self : goal.returns-else-self
returns-else-self g c = no_end c.args.self c.args.value c.if-self.false
