use Rattle.std.proofs.Common.{rules}
use Rattle.balise_text.proofs.words.Words.some_word.Goals as goal

pub returns-in-empty : goal.returns-in-empty
returns-in-empty c = search rules
