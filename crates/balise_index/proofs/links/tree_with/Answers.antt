use Rattle.std.proofs.Common.{◌≡◌, ◌∙◌, ◌+◌, ℕ, suc, true, Some, cond, option_map, sym, ap, arith, take}
use Rattle.std.proofs.lemmas.List.{length-map, take_all}
use Rattle.std.proofs.lemmas.Option.{slice_get-get_or, slice_get-map}
use Rattle.balise_index.specs.NarrowPlace.{wide_place, wide_places}
use Rattle.balise_index.specs.Places.{among, is_place}
use Rattle.balise_index.proofs.places.Ranked.{among-next}
use Rattle.balise_index.proofs.links.tree_with.Goals as goal

pub loop-i-preserved : goal.loop-i-preserved
loop-i-preserved c v =
    let i = c.loop-i.i in
    let p = c.index.result.now in
    let w = c.wide.result in
    let ns = c.args.list.now.items in
    let vs = wide_places ns in
    let held = slice_get-get_or ns i p (omega (arith, c.loop-i-test.true, c.len-i-end.ensures)) ∙ ap Some (sym c.index.ensures) in
    let stands = slice_get-map wide_place ns i ∙ ap (option_map wide_place) held ∙ ap Some (sym c.wide.ensures) in
    c.in_ok-insert.ensures.updates.0 v ∙ ap (cond (is_place w v) true) (c.loop-i.invariant v) ∙ sym (among-next w v vs i stands) ∙ ap (λ (n : ℕ). among v (take n vs)) (let n : suc i ≡ i + 1 = omega arith in n)

pub returns-clause-put : goal.returns-clause-put
returns-clause-put c v =
    let vs = wide_places c.args.list.now.items in
    let same = length-map c.args.list.now.items wide_place in
    c.in_ok-insert-2.ensures.updates.0 v ∙ ap (cond (is_place c.args.place v) true) (c.loop-i.invariant v ∙ ap (among v) (take_all c.loop-i.i vs (omega (arith, same, c.loop-i-test.false, c.len-i-end.ensures))))
