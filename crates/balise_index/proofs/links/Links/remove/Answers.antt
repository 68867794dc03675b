use Rattle.std.proofs.Common.{◌≡◌, ◌∙◌, true, false, cond, [], ◌∷◌, refl, sym, ap}
use Rattle.balise_index.specs.LinkSet.{places_held}
use Rattle.balise_index.specs.NarrowPlace.{wide_place}
use Rattle.balise_index.specs.Places.{Links, among, is_place}
use Rattle.balise_index.proofs.places.Few.{told}
use Rattle.balise_index.proofs.places.Ranked.{keeps-one, ordered-none, takes-one}
use Rattle.balise_index.proofs.links.Links.remove.Goals as goal
use Rattle.balise_index.proofs.links.Links.remove.Goals.{In-One, in-Few-1, in-Many-1, in-Empty-1}

pub invariant_of-self-then-is_eq-3 : goal.invariant_of-self-then-is_eq-3
invariant_of-self-then-is_eq-3 c = ordered-none [] refl

-- the place that was held is all that was there
old : (c : In-One) → c.args.self.now.keys ≡ wide_place c.in-One.held ∷ []
old c = ap (λ l. l.keys) (sym c.self.view_is) ∙ ap (λ h. (places_held h).keys) c.in-One.is

pub returns-then-is_eq : goal.returns-then-is_eq
returns-then-is_eq c v =
    let w = c.args.place.now in
    let e : is_place w (wide_place c.in-One.held) ≡ true = told w c.wide.ensures c.cmp.ensures (sym c.is_eq.ensures ∙ c.if-is_eq.true) in
    let put = takes-one w (wide_place c.in-One.held) e v ∙ ap (λ l. cond (is_place w v) false (among v l)) (sym (old (goal.at.returns-then-is_eq c).In-One)) in
    elim c.match-self-2.branch [
      | in-Few-1 w ↦ ap (λ l. among v l.keys) w.self-is ∙ put
      | in-Many-1 w ↦ ap (λ l. among v l.keys) w.self-is ∙ put
      | in-Empty-1 w ↦ ap (λ l. among v l.keys) w.self-is ∙ put
    ]

pub returns-else-is_eq : goal.returns-else-is_eq
returns-else-is_eq c v =
    let w = c.args.place.now in
    keeps-one w (wide_place c.in-One.held) (told w c.wide.ensures c.cmp.ensures (sym c.is_eq.ensures ∙ c.if-is_eq.false)) v
    ∙ ap (λ l. cond (is_place w v) false (among v l)) (sym (old (goal.at.returns-else-is_eq c).In-One))

pub returns-in-Many : goal.returns-in-Many
returns-in-Many c v =
    let old = ap (λ l. l.keys) (sym c.self.view_is) ∙ ap (λ h. (places_held h).keys) c.in-Many.is in
    c.remove-in-Many.ensures.updates.0 v
    ∙ ap (λ (s : Links). cond (is_place c.args.place.now v) false (among v s.keys)) c.deref_mut-in-Many.ensures.value
    ∙ ap (λ l. cond (is_place c.args.place.now v) false (among v l)) (sym old)
