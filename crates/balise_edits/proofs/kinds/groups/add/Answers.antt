use Rattle.std.proofs.Common.{◌∙◌, ap, sym}
use Rattle.balise_rules.specs.Plan.{read_group}
use Rattle.balise_edits.proofs.kinds.groups.add.Goals as goal

pub returns-clause-noted : goal.returns-clause-noted
returns-clause-noted c =
    c.in_ok-note.ensures.noted c.args.after c.args.telegrams.now.items c.args.plan.now.groups (ap read_group (sym c.in_ok-copy_telegrams.ensures.ok) ∙ c.in-Ok.ensures.ok)
