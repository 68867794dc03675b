use Rattle.std.proofs.Common.{◌∙◌, sym, ap}
use Rattle.balise_index.specs.SmallPlace.{wide_small}
use Rattle.balise_index.proofs.places.Few.{told}
use Rattle.balise_index.proofs.places.Ranked.{keeps-three, ordered-remove, takes-out}
use Rattle.balise_index.proofs.links.three_without.Goals as goal

pub returns-then-is_eq-clause-ordered : goal.returns-then-is_eq-clause-ordered
returns-then-is_eq-clause-ordered c = rw (c.second-second.ensures, c.third-third.ensures) (ordered-remove _ 0 c.requires)

pub returns-then-is_eq-2-clause-ordered : goal.returns-then-is_eq-2-clause-ordered
returns-then-is_eq-2-clause-ordered c = rw (c.first-first.ensures, c.third-third.ensures) (ordered-remove _ 1 c.requires)

pub returns-then-is_eq-3-clause-ordered : goal.returns-then-is_eq-3-clause-ordered
returns-then-is_eq-3-clause-ordered c = rw (c.first-first.ensures, c.second-second.ensures) (ordered-remove _ 2 c.requires)

pub returns-then-is_eq-clause-put : goal.returns-then-is_eq-clause-put
returns-then-is_eq-clause-put c =
    rw (c.second-second.ensures, c.third-third.ensures)
    (takes-out c.args.place.now _ 0 c.requires (told _ (c.wide.ensures ∙ ap wide_small c.first-first.ensures) c.cmp.ensures (sym c.is_eq.ensures ∙ c.if-is_eq.true)))

pub returns-then-is_eq-2-clause-put : goal.returns-then-is_eq-2-clause-put
returns-then-is_eq-2-clause-put c =
    rw (c.first-first.ensures, c.third-third.ensures)
    (takes-out c.args.place.now _ 1 c.requires (told _ (c.wide-2.ensures ∙ ap wide_small c.second-second.ensures) c.cmp-2.ensures (sym c.is_eq-2.ensures ∙ c.if-is_eq-2.true)))

pub returns-then-is_eq-3-clause-put : goal.returns-then-is_eq-3-clause-put
returns-then-is_eq-3-clause-put c =
    rw (c.first-first.ensures, c.second-second.ensures)
    (takes-out c.args.place.now _ 2 c.requires (told _ (c.wide-3.ensures ∙ ap wide_small c.third-third.ensures) c.cmp-3.ensures (sym c.is_eq-3.ensures ∙ c.if-is_eq-3.true)))

pub returns-clause-put : goal.returns-clause-put
returns-clause-put c =
    keeps-three c.args.place.now _ _ _
    (told _ (c.wide.ensures ∙ ap wide_small c.first-first.ensures) c.cmp.ensures (sym c.is_eq.ensures ∙ c.if-is_eq.false))
    (told _ (c.wide-2.ensures ∙ ap wide_small c.second-second.ensures) c.cmp-2.ensures (sym c.is_eq-2.ensures ∙ c.if-is_eq-2.false))
    (told _ (c.wide-3.ensures ∙ ap wide_small c.third-third.ensures) c.cmp-3.ensures (sym c.is_eq-3.ensures ∙ c.if-is_eq-3.false))
