use Rattle.std.proofs.Common.{◌∙◌, sym}
use Rattle.balise_text.proofs.Taking.{left_more, left_last}
use Rattle.balise_text.proofs.words.Words.next.Goals as goal

pub returns-in-Some : goal.returns-in-Some
returns-in-Some c = left_more c.args.self c.in-Some.at c.if-self.false (sym c.find_byte.ensures ∙ c.in-Some.is)

pub returns-in-None : goal.returns-in-None
returns-in-None c = left_last c.args.self c.if-self.false (sym c.find_byte.ensures ∙ c.in-None.is)
