use Rattle.std.proofs.Common.{arith, refl}
use Rattle.std.proofs.lemmas.List.{at_drop_all}
use Rattle.balise_plan.specs.GroupLinks.{links_from}
use Rattle.balise_plan.proofs.naming.GroupLists.{on_err}
use Rattle.balise_plan.proofs.naming.Parts.{all_set, element_past, element_set, none_set}
use Rattle.balise_plan.proofs.links.packet.set_elements.Goals as goal

pub loop-k-preserved-then-id-eq-NO_GROUP : goal.loop-k-preserved-then-id-eq-NO_GROUP
loop-k-preserved-then-id-eq-NO_GROUP c = let w = c.args.place in element_past w.group w.telegram w.packet c.loop-k.k c.args.identities.now c.args.identities.now refl c.loop-k-test.true c.args.noted _ _ c.loop-k.index c.loop-k.invariant c.if-id-eq-NO_GROUP.true

pub loop-k-preserved : goal.loop-k-preserved
loop-k-preserved c = let w = c.args.place in element_set w.group w.telegram w.packet c.loop-k.k c.args.identities.now c.args.identities.now refl c.loop-k-test.true c.args.noted _ _ c.loop-k.index c.loop-k.invariant c.set_name.new.index c.if-id-eq-NO_GROUP.false c.element.result c.element.ensures c.in_ok-set_name.ensures.set c.in_ok-set_name.ensures.tags

pub returns-clause-set : goal.returns-clause-set
returns-clause-set c = let w = c.args.place in all_set c.loop-k.invariant (at_drop_all (links_from w.group w.telegram w.packet c.loop-k.k) c.args.identities.now c.loop-k.k (omega (arith, c.loop-k-test.false)))

pub returns-in_err-set_name-clause-others : goal.returns-in_err-set_name-clause-others
returns-in_err-set_name-clause-others c = on_err c.from_residual.result (none_set c.set_name.new.index c.loop-k.invariant c.in_err-set_name.ensures.unchanged)
