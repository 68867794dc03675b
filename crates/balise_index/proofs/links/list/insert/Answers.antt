use Rattle.std.proofs.Common.{◌∙◌, true, sym, ap, subst, insert}
use Rattle.std.specs.List.Sorted.{IsStrictlySortedBy}
use Rattle.indexmap.proofs.SetLemmas.{map-insert}
use Rattle.balise_index.specs.LinkSet.{PutsIn}
use Rattle.balise_index.specs.NarrowPlace.{wide_place, wide_places}
use Rattle.balise_index.specs.Places.{compare_place}
use Rattle.balise_index.proofs.places.Ranked.{not-empty, ordered-put, puts-in, puts-there}
use Rattle.balise_index.proofs.links.list.insert.Goals as goal

pub returns-then-is_at-clause-put : goal.returns-then-is_at-clause-put
returns-then-is_at-clause-put c =
    let vs = wide_places c.args.list.now.items in
    subst (λ w. PutsIn vs vs w true) c.wide-wide.ensures (puts-there c.wide-wide.result vs c.place_for-i.result (sym c.if-is_at.ensures))

pub returns-clause-ordered : goal.returns-clause-ordered
returns-clause-ordered c =
    let ns = c.args.list.now.items in
    let i = c.place_for-i.result in
    let items = c.in_ok-insert.ensures.items ∙ ap (λ l. insert l i c.args.place) c.make_room.ensures in
    let e = ap wide_places items ∙ map-insert wide_place ns i c.args.place ∙ ap (insert (wide_places ns) i) (sym c.wide-wide.ensures) in
    subst (IsStrictlySortedBy compare_place) (sym e) (ordered-put c.wide-wide.result (wide_places ns) i c.place_for-i.ensures.rank c.requires (sym c.if-is_at.ensures))

pub returns-clause-put : goal.returns-clause-put
returns-clause-put c =
    let ns = c.args.list.now.items in
    let i = c.place_for-i.result in
    let items = c.in_ok-insert.ensures.items ∙ ap (λ l. insert l i c.args.place) c.make_room.ensures in
    let e = ap wide_places items ∙ map-insert wide_place ns i c.args.place in
    subst (λ l. PutsIn (wide_places ns) l (wide_place c.args.place) true) (sym e) (puts-in (wide_place c.args.place) (wide_places ns) i)

pub returns-then-is_at-clause-some : goal.returns-then-is_at-clause-some
returns-then-is_at-clause-some c = not-empty (wide_place c.args.place) (wide_places c.args.list.now.items) (wide_places c.args.list.now.items) (returns-then-is_at-clause-put c)

pub returns-clause-some : goal.returns-clause-some
returns-clause-some c = not-empty (wide_place c.args.place) (wide_places c.args.list.now.items) (wide_places c.insert.new.self.items) (returns-clause-put c)
