use Rattle.balise_history.proofs.Unmaking.{edits_undone}
use Rattle.balise_history.proofs.laws.edits_undone.Goals as goal

pub returns : goal.returns
returns c = edits_undone
