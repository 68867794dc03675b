use Rattle.std.proofs.Common.{◌∙◌, ap}
use Rattle.balise_edits.specs.Standing.{changed_to}
use Rattle.balise_edits.proofs.PutIn.{inserted_is}
use Rattle.balise_edits.proofs.kinds.packets.put_after.Goals as goal

pub returns-in-Ok : goal.returns-in-Ok
returns-in-Ok c =
    (c.in-Ok.ensures.0, c.in-Ok.ensures.1 ∙ ap (λ q. changed_to q c.args.plan.now) (inserted_is c.args.serial c.args.g c.args.t c.args.after c.args.packet c.args.plan.now.groups))
