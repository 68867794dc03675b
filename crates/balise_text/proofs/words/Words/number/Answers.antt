use Rattle.std.proofs.Common.{length}
use Rattle.balise_text.specs.Left.{up_to}
use Rattle.balise_text.specs.Words.{number_of}
use Rattle.balise_text.proofs.UpTo.{made_of_none, no_number_left}
use Rattle.balise_text.proofs.words.Words.number.Goals as goal

pub returns-in_default : goal.returns-in_default
returns-in_default c =
    let part = up_to c.args.self.mark c.args.self.text.now in
    no_number_left c.args.self c.if-self.false (made_of_none (number_of part) (length part) c.in_default.ensures)
