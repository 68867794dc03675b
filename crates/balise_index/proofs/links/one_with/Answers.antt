use Rattle.std.proofs.Common.{[], ◌∷◌, ap, refl}
use Rattle.std.specs.Ordering.{is_eq}
use Rattle.balise_index.specs.NarrowPlace.{wide_place}
use Rattle.balise_index.proofs.places.Few.{compared, made-ordered, made-put}
use Rattle.balise_index.proofs.places.Ranked.{ordered-above, ordered-below, ordered-one, puts-there}
use Rattle.balise_index.proofs.links.one_with.Goals as goal

pub returns-in-Less-clause-ordered : goal.returns-in-Less-clause-ordered
returns-in-Less-clause-ordered c = made-ordered c.both.result _ c.both.ensures (ordered-below _ _ (compared c.wide.ensures c.wide-2.ensures c.cmp.ensures c.in-Less.is))

pub returns-in-Less-clause-put : goal.returns-in-Less-clause-put
returns-in-Less-clause-put c = made-put c.both.result (wide_place c.args.held ∷ []) 0 refl c.both.ensures

pub returns-in-Equal-clause-ordered : goal.returns-in-Equal-clause-ordered
returns-in-Equal-clause-ordered c = ordered-one (wide_place c.args.held)

pub returns-in-Equal-clause-put : goal.returns-in-Equal-clause-put
returns-in-Equal-clause-put c = puts-there (wide_place c.args.place) (wide_place c.args.held ∷ []) 0 (ap is_eq (compared c.wide.ensures c.wide-2.ensures c.cmp.ensures c.in-Equal.is))

pub returns-in-Greater-clause-ordered : goal.returns-in-Greater-clause-ordered
returns-in-Greater-clause-ordered c = made-ordered c.both-in-Greater.result _ c.both-in-Greater.ensures (ordered-above _ _ (compared c.wide.ensures c.wide-2.ensures c.cmp.ensures c.in-Greater.is))

pub returns-in-Greater-clause-put : goal.returns-in-Greater-clause-put
returns-in-Greater-clause-put c = made-put c.both-in-Greater.result (wide_place c.args.held ∷ []) 1 refl c.both-in-Greater.ensures
