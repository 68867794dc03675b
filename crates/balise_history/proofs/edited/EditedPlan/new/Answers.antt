use Rattle.std.proofs.Common.{List, [], sym, subst}
use Rattle.balise_rules.specs.Paths.{Entry}
use Rattle.balise_history.specs.Held.{IsHeld}
use Rattle.balise_history.specs.Lists.{Gone}
use Rattle.balise_history.proofs.Opened.{opened-held}
use Rattle.balise_history.proofs.edited.EditedPlan.new.Goals as goal

pub invariant_of-result : goal.invariant_of-result
invariant_of-result c =
    let h = opened-held c.args.plan.groups c.args.next c.requires.sound c.requires.untagged c.requires.first in
    let h1 = subst (λ (st : List Entry). IsHeld c.args.plan.groups st [] c.args.next) (sym c.new.ensures.standing) h in
    subst (λ (sk : List Gone). IsHeld c.args.plan.groups c.new.result.standing sk c.args.next) (sym c.new.ensures.stack) h1
