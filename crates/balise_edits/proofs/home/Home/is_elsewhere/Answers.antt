use Rattle.std.proofs.Common.{rules}
use Rattle.balise_edits.proofs.home.Home.is_elsewhere.Goals as goal

pub returns-in-Group-Named : goal.returns-in-Group-Named
returns-in-Group-Named c = search rules
