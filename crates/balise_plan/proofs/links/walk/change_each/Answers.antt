use Rattle.std.proofs.Common.{rules, ◌≡◌, ◌∙◌, [], sym, ap}
use Rattle.balise_index.proofs.places.Sorted.{once-sorted}
use Rattle.balise_plan.specs.Walks.{change_all}
use Rattle.balise_plan.proofs.links.walk.change_each.Goals as goal

pub loop-place-preserved : goal.loop-place-preserved
loop-place-preserved c = record {
  rest = ap (change_all c.args.change c.next.new.self) c.change_one.ensures.changed ∙ ap (λ ps. change_all c.args.change ps c.loop-place.groups.entries) (sym c.in-Some.ensures.steps) ∙ c.loop-place.invariant.rest;
  tags = c.change_one.ensures.tags;
}

pub returns-clause-once : goal.returns-clause-once
returns-clause-once c = once-sorted c.args.links.now.keys c.iter-place-items.ensures.ordered

pub returns-clause-changed : goal.returns-clause-changed
returns-clause-changed c =
    let s : c.loop-place.place-iterator ≡ [] = search rules in
    ap (λ ps. change_all c.args.change ps c.loop-place.groups.entries) (sym s) ∙ c.loop-place.invariant.rest
