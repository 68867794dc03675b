use Rattle.std.proofs.Common.{◌∙◌, false, sym, ap, subst}
use Rattle.std.specs.List.Sorted.{IsStrictlySortedBy}
use Rattle.indexmap.proofs.SetLemmas.{map-remove}
use Rattle.balise_index.specs.LinkSet.{PutsIn}
use Rattle.balise_index.specs.NarrowPlace.{wide_place, wide_places}
use Rattle.balise_index.specs.Places.{compare_place}
use Rattle.balise_index.proofs.places.Ranked.{ordered-remove, takes-out, takes-none}
use Rattle.balise_index.proofs.links.list.remove.Goals as goal

pub returns-then-is_at-clause-ordered : goal.returns-then-is_at-clause-ordered
returns-then-is_at-clause-ordered c =
    let e = ap wide_places c.remove.ensures.items ∙ map-remove wide_place c.args.list.now.items c.place_for-i.result in
    subst (IsStrictlySortedBy compare_place) (sym e) (ordered-remove (wide_places c.args.list.now.items) c.place_for-i.result c.requires)

pub returns-then-is_at-clause-put : goal.returns-then-is_at-clause-put
returns-then-is_at-clause-put c =
    let e = ap wide_places c.remove.ensures.items ∙ map-remove wide_place c.args.list.now.items c.place_for-i.result in
    subst (λ l. PutsIn (wide_places c.args.list.now.items) l c.args.place.now false) (sym e)
    (takes-out c.args.place.now (wide_places c.args.list.now.items) c.place_for-i.result c.requires (sym c.if-is_at.ensures))

pub returns-else-is_at-clause-put : goal.returns-else-is_at-clause-put
returns-else-is_at-clause-put c = takes-none c.args.place.now (wide_places c.args.list.now.items) c.place_for-i.result c.place_for-i.ensures.rank c.requires (sym c.if-is_at.ensures)
