use Rattle.std.proofs.Common.{◌∙◌, ap}
use Rattle.balise_edits.specs.Standing.{changed_to}
use Rattle.balise_edits.proofs.PutIn.{added_is, added_refusal}
use Rattle.balise_edits.proofs.kinds.groups.put_after.Goals as goal

pub returns-in-Ok : goal.returns-in-Ok
returns-in-Ok c bs is =
    (added_refusal c.args.after bs c.args.plan.now.groups c.args.group is ∙ c.in-Ok.ensures.0, c.in-Ok.ensures.1 ∙ ap (λ q. changed_to q c.args.plan.now) (added_is c.args.serial c.args.after bs c.args.plan.now.groups c.args.group is))
