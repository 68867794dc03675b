use Rattle.std.proofs.Common.{◌≡◌, ◌∙◌, true, cond, [], sym, ap}
use Rattle.balise_index.specs.LinkSet.{places_held}
use Rattle.balise_index.specs.NarrowPlace.{wide_place}
use Rattle.balise_index.specs.Places.{among, is_place}
use Rattle.balise_index.proofs.places.Ranked.{ordered-one, puts-one}
use Rattle.balise_index.proofs.links.Links.insert.Goals as goal

pub invariant_of-self : goal.invariant_of-self
invariant_of-self c = ordered-one (wide_place c.in-Some.narrow)

pub returns-in-Empty-clause-put : goal.returns-in-Empty-clause-put
returns-in-Empty-clause-put c v =
    let old : c.args.self.now.keys ≡ [] = ap (λ l. l.keys) (sym c.self.view_is) ∙ ap (λ h. (places_held h).keys) c.in-Empty.is in
    puts-one (wide_place c.in-Some.narrow) v
    ∙ ap (λ w. cond (is_place w v) true (among v [])) c.in-Some.ensures.some
    ∙ ap (λ l. cond (is_place c.args.place v) true (among v l)) (sym old)
