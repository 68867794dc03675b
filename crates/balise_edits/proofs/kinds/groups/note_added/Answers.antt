use Rattle.std.proofs.Common.{◌∙◌, ap}
use Rattle.balise_rules.specs.declared.identity.Id.{Id}
use Rattle.balise_rules.specs.Plan.{identity_of}
use Rattle.balise_edits.specs.Notes.{of_named}
use Rattle.balise_edits.proofs.PutIn.{added_noted}
use Rattle.balise_edits.proofs.kinds.groups.note_added.Goals as goal

pub returns-clause-noted : goal.returns-clause-noted
returns-clause-noted c a bs plan is =
    c.in_ok-note.ensures.noted
    ∙ ap (λ (i : Id). of_named i c.in_ok-names.names.items) c.identity-own.ensures
    ∙ ap (of_named (identity_of c.args.group.now)) c.in_ok-names.ensures.ok
    ∙ added_noted a bs plan c.args.group.now is
