use Rattle.std.proofs.Common.{arith}
use Rattle.std.proofs.lemmas.List.{at_drop_all}
use Rattle.balise_plan.specs.GroupLinks.{links_in_group}
use Rattle.balise_plan.proofs.naming.GroupLists.{on_err}
use Rattle.balise_plan.proofs.naming.Parts.{all_set, group_rest, setting_on, setting_stopped}
use Rattle.balise_plan.proofs.links.group.set_group.Goals as goal

pub loop-i-preserved : goal.loop-i-preserved
loop-i-preserved c = setting_on _ _ c.set_telegram.new.index c.loop-i.invariant (group_rest c.args.g c.args.group.now c.loop-i.i c.in-Some.t c.in-Some.telegram.now c.in-Some.ensures) c.in_ok-set_telegram.ensures.set c.in_ok-set_telegram.ensures.tags

pub returns-in_err-set_telegram-clause-others : goal.returns-in_err-set_telegram-clause-others
returns-in_err-set_telegram-clause-others c = on_err c.from_residual.result (setting_stopped _ _ c.set_telegram.new.index c.loop-i.invariant (group_rest c.args.g c.args.group.now c.loop-i.i c.in-Some.t c.in-Some.telegram.now c.in-Some.ensures) c.in_err-set_telegram.ensures.others)

pub returns-clause-set : goal.returns-clause-set
returns-clause-set c = all_set c.loop-i.invariant (at_drop_all (links_in_group c.args.g) c.args.group.now c.loop-i.i (omega (arith, c.loop-i-test.false, c.count-i-end.ensures)))
