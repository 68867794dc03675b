-- Where memory runs out, nothing of an edit was written, and an edit has a line.
use Rattle.balise_facts.proofs.Sequences.{edit_is_some, nothing_yet}
use Rattle.balise_facts.proofs.edits.put_edit.Goals as goal

pub returns-in_default : goal.returns-in_default
returns-in_default g c = nothing_yet _ _ _ (edit_is_some _ _ _ _)

pub returns-in_default-needed_places : goal.returns-in_default-needed_places
returns-in_default-needed_places g c = nothing_yet _ _ _ (edit_is_some _ _ _ _)

pub returns-in_default-dependents : goal.returns-in_default-dependents
returns-in_default-dependents g c = nothing_yet _ _ _ (edit_is_some _ _ _ _)
