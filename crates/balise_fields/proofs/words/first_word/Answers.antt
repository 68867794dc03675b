use Rattle.std.proofs.Common.{◌∙◌, sym}
use Rattle.balise_fields.proofs.Splitting.{first_of_more, only_one}
use Rattle.balise_fields.proofs.words.first_word.Goals as goal

pub returns-in-Some : goal.returns-in-Some
returns-in-Some c = first_of_more c.args.text.now c.in-Some.at (sym c.find_space.ensures ∙ c.in-Some.is)

pub returns-in-None : goal.returns-in-None
returns-in-None c = only_one c.args.text.now (sym c.find_space.ensures ∙ c.in-None.is)
