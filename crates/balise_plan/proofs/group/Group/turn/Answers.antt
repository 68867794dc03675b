use Rattle.std.proofs.Common.{reverse, sym, ap, subst, ◌∙◌}
use Rattle.balise_rules.specs.Plan.{IsSoundGroup}
use Rattle.balise_plan.proofs.groups.Sound.{totals-fit, turned-sound}
use Rattle.balise_plan.proofs.group.Group.turn.Goals as goal

pub turn_each-requires : goal.turn_each-requires
turn_each-requires c = totals-fit c.self.inside.telegrams c.self.invariant

pub invariant_of-self : goal.invariant_of-self
invariant_of-self c = subst IsSoundGroup (sym (c.reverse.ensures ∙ ap reverse c.turn_each.ensures)) (turned-sound c.self.inside.telegrams c.self.invariant)
