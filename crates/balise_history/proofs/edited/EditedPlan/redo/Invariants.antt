use Rattle.balise_history.proofs.Answering.{top_of}
use Rattle.balise_history.proofs.edited.EditedPlan.redo.Given as goal

abbrev pub ghost-put_back : goal.ghost-put_back
ghost-put_back a = top_of a.self.now.stack
