use Rattle.std.proofs.Common.{◌≡◌, ◌∙◌, ◌-◌, ◌<◌, suc, Some, true, length, option_map, sym, ap, arith}
use Rattle.std.specs.Ordering.{is_gt}
use Rattle.std.proofs.lemmas.List.{length-map}
use Rattle.std.proofs.lemmas.Option.{slice_get-get_or, slice_get-map}
use Rattle.balise_index.specs.NarrowPlace.{wide_place, wide_places}
use Rattle.balise_index.specs.Places.{compare_place}
use Rattle.balise_index.proofs.places.Ranked.{rank-above}
use Rattle.balise_index.proofs.links.list.comes_last.Goals as goal

pub returns : goal.returns
returns c t =
    let ns = c.args.list.now.items in
    let i = c.len-len.result - 1 in
    let z = wide_place c.index.result.now in
    let same = length-map ns wide_place in
    let within : i < length ns = omega (arith, c.if-len-eq0.false, c.len-len.ensures, c.args.list.now.ok.0) in
    let held = slice_get-get_or ns i c.index.result.now within ∙ ap Some (sym c.index.ensures) in
    let stands = slice_get-map wide_place ns i ∙ ap (option_map wide_place) held in
    let last : suc i ≡ length (wide_places ns) = omega (arith, same, c.if-len-eq0.false, c.len-len.ensures, c.args.list.now.ok.0) in
    let above : is_gt (compare_place c.args.place z) ≡ true = ap (λ u. is_gt (compare_place c.args.place u)) (sym c.wide.ensures) ∙ ap is_gt (sym c.cmp.ensures) ∙ sym c.is_gt.ensures ∙ t in
    sym same ∙ rank-above c.args.place z (wide_places ns) i last stands c.requires above
