use Rattle.balise_cli.proofs.Headline.{standing_printed}
use Rattle.balise_cli.proofs.laws.prints_standing_edits.Goals as goal

pub returns : goal.returns
returns c = standing_printed
