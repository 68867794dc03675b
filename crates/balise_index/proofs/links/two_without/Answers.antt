use Rattle.std.proofs.Common.{sym}
use Rattle.balise_index.specs.NarrowPlace.{wide_place}
use Rattle.balise_index.proofs.places.Few.{told}
use Rattle.balise_index.proofs.places.Ranked.{keeps-two, ordered-one, takes-out}
use Rattle.balise_index.proofs.links.two_without.Goals as goal

pub returns-then-is_eq-clause-ordered : goal.returns-then-is_eq-clause-ordered
returns-then-is_eq-clause-ordered c = ordered-one (wide_place c.narrow.result)

pub returns-then-is_eq-clause-put : goal.returns-then-is_eq-clause-put
returns-then-is_eq-clause-put c = rw c.narrow.ensures (takes-out c.args.place.now _ 0 c.requires (told _ c.wide.ensures c.cmp.ensures (sym c.if-is_eq.ensures)))

pub returns-then-is_eq-2-clause-ordered : goal.returns-then-is_eq-2-clause-ordered
returns-then-is_eq-2-clause-ordered c = ordered-one (wide_place c.narrow-then-is_eq-2.result)

pub returns-then-is_eq-2-clause-put : goal.returns-then-is_eq-2-clause-put
returns-then-is_eq-2-clause-put c = rw c.narrow-then-is_eq-2.ensures (takes-out c.args.place.now _ 1 c.requires (told _ c.wide-2.ensures c.cmp-2.ensures (sym c.if-is_eq-2.ensures)))

pub returns-clause-put : goal.returns-clause-put
returns-clause-put c = keeps-two c.args.place.now _ _ (told _ c.wide.ensures c.cmp.ensures (sym c.if-is_eq.ensures)) (told _ c.wide-2.ensures c.cmp-2.ensures (sym c.if-is_eq-2.ensures))
