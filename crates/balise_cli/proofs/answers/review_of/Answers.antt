use Rattle.std.proofs.Common.{◌∙◌, sym}
use Rattle.balise_rules.specs.Plan.{group_named}
use Rattle.balise_cli.proofs.Answered.{group_reviewed}
use Rattle.balise_cli.proofs.answers.review_of.Goals as goal

pub returns-in-Ok-clause-ok : goal.returns-in-Ok-clause-ok
returns-in-Ok-clause-ok c = c.in-Ok.ensures.ok ∙ group_reviewed (group_named c.args.id c.args.plan.now.groups) c.in-Some.g c.args.plan.now.groups (sym c.in-Some.ensures)
