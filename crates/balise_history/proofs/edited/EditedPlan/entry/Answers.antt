use Rattle.std.proofs.Common.{subst}
use Rattle.balise_commands.specs.Lines.{line_in}
use Rattle.balise_history.specs.Held.{Edited}
use Rattle.balise_history.specs.Openings.{Enters}
use Rattle.balise_history.proofs.Answering.{view}
use Rattle.balise_history.proofs.Entering.{enters-seen}
use Rattle.balise_history.proofs.edited.EditedPlan.entry.Goals as goal

pub returns-clause-enters : goal.returns-clause-enters
returns-clause-enters c =
    let n = c.self.inside.next in
    let l = line_in c.args.line in
    let t = view c.enter.new.plan c.enter.new.history n in
    subst (λ (s : Edited). Enters l s c.enter.result t) c.self.view_is (enters-seen l n c.self.inside.plan c.self.inside.history c.enter.result c.enter.new.plan c.enter.new.history c.enter.ensures)
