use Rattle.std.proofs.Common.{◌≡◌, ◌∙◌, true, cond, [], sym, ap}
use Rattle.balise_index.specs.LinkSet.{places_held}
use Rattle.balise_index.specs.NarrowPlace.{wide_place}
use Rattle.balise_index.specs.Places.{Links, among, is_place}
use Rattle.balise_index.proofs.places.Ranked.{ordered-one, puts-one}
use Rattle.balise_index.proofs.links.insert_far.Goals as goal

pub returns-in-Empty-clause-ordered : goal.returns-in-Empty-clause-ordered
returns-in-Empty-clause-ordered c = ordered-one (wide_place c.args.place)

pub returns-in-Empty-clause-put : goal.returns-in-Empty-clause-put
returns-in-Empty-clause-put c v =
    let w = wide_place c.args.place in
    let old : (places_held c.args.held.now).keys ≡ [] = ap (λ h. (places_held h).keys) c.in-Empty.is in
    puts-one w v ∙ ap (λ l. cond (is_place w v) true (among v l)) (sym old)

pub returns-in_ok-insert-in-Many-clause-put : goal.returns-in_ok-insert-in-Many-clause-put
returns-in_ok-insert-in-Many-clause-put c v =
    let w = wide_place c.args.place in
    let old = ap (λ h. (places_held h).keys) c.in-Many.is in
    c.in_ok-insert-in-Many.ensures.updates.0 v
    ∙ ap (λ (s : Links). cond (is_place c.wide-in-Many.result v) true (among v s.keys)) c.deref_mut-in-Many.ensures.value
    ∙ ap (λ u. cond (is_place u v) true (among v c.in-Many.tree.value.keys)) c.wide-in-Many.ensures
    ∙ ap (λ l. cond (is_place w v) true (among v l)) (sym old)
