use Rattle.balise_edit_laws.proofs.LinesReady.{lines_ready}
use Rattle.balise_edit_laws.proofs.lines_ready.Goals as goal

pub returns : goal.returns
returns c = lines_ready
