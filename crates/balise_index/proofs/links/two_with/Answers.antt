use Rattle.std.proofs.Common.{[], ◌∷◌, true, ap, subst}
use Rattle.std.specs.Ordering.{is_eq}
use Rattle.balise_index.specs.LinkSet.{PutsIn}
use Rattle.balise_index.specs.NarrowPlace.{wide_place}
use Rattle.balise_index.specs.SmallPlace.{wide_small}
use Rattle.balise_index.proofs.places.Few.{compared, made-ordered, made-put}
use Rattle.balise_index.proofs.places.Ranked.{ordered-first, ordered-second, ordered-third, puts-there}
use Rattle.balise_index.proofs.links.two_with.Goals as goal

pub returns-in-Less-clause-ordered : goal.returns-in-Less-clause-ordered
returns-in-Less-clause-ordered c = made-ordered c.all_three.result _ c.all_three.ensures (ordered-first _ _ _ (compared c.wide.ensures c.wide-2.ensures c.cmp.ensures c.in-Less.is) c.requires)

pub returns-in-Less-cmp-clause-ordered : goal.returns-in-Less-cmp-clause-ordered
returns-in-Less-cmp-clause-ordered c =
    made-ordered c.all_three-in-Less-cmp.result _ c.all_three-in-Less-cmp.ensures
    (ordered-second _ _ _ (compared c.wide.ensures c.wide-2.ensures c.cmp.ensures c.in-Greater.is) (compared c.wide-in-Greater.ensures c.wide-in-Greater-2.ensures c.cmp-in-Greater.ensures c.in-Less-cmp.is) c.requires)

pub returns-in-Greater-cmp-clause-ordered : goal.returns-in-Greater-cmp-clause-ordered
returns-in-Greater-cmp-clause-ordered c =
    made-ordered c.all_three-in-Greater-cmp.result _ c.all_three-in-Greater-cmp.ensures
    (ordered-third _ _ _ (compared c.wide-in-Greater.ensures c.wide-in-Greater-2.ensures c.cmp-in-Greater.ensures c.in-Greater-cmp.is) c.requires)

pub returns-in-Less-clause-put : goal.returns-in-Less-clause-put
returns-in-Less-clause-put c = made-put c.all_three.result (wide_small c.args.first ∷ wide_small c.args.second ∷ []) 0 (ap wide_place c.in_ok-small.ensures.some) c.all_three.ensures

pub returns-in-Less-cmp-clause-put : goal.returns-in-Less-cmp-clause-put
returns-in-Less-cmp-clause-put c = made-put c.all_three-in-Less-cmp.result (wide_small c.args.first ∷ wide_small c.args.second ∷ []) 1 (ap wide_place c.in_ok-small.ensures.some) c.all_three-in-Less-cmp.ensures

pub returns-in-Greater-cmp-clause-put : goal.returns-in-Greater-cmp-clause-put
returns-in-Greater-cmp-clause-put c = made-put c.all_three-in-Greater-cmp.result (wide_small c.args.first ∷ wide_small c.args.second ∷ []) 2 (ap wide_place c.in_ok-small.ensures.some) c.all_three-in-Greater-cmp.ensures

pub returns-in-Equal-clause-put : goal.returns-in-Equal-clause-put
returns-in-Equal-clause-put c =
    let vs = wide_small c.args.first ∷ wide_small c.args.second ∷ [] in
    subst (λ u. PutsIn vs vs u true) (ap wide_place c.in_ok-small.ensures.some) (puts-there _ vs 0 (ap is_eq (compared c.wide.ensures c.wide-2.ensures c.cmp.ensures c.in-Equal.is)))

pub returns-in-Equal-cmp-clause-put : goal.returns-in-Equal-cmp-clause-put
returns-in-Equal-cmp-clause-put c =
    let vs = wide_small c.args.first ∷ wide_small c.args.second ∷ [] in
    subst (λ u. PutsIn vs vs u true) (ap wide_place c.in_ok-small.ensures.some) (puts-there _ vs 1 (ap is_eq (compared c.wide-in-Greater.ensures c.wide-in-Greater-2.ensures c.cmp-in-Greater.ensures c.in-Equal-cmp.is)))
