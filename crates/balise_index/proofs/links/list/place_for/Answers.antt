use Rattle.std.proofs.Common.{◌∙◌, sym}
use Rattle.std.proofs.lemmas.List.{length-map}
use Rattle.balise_index.specs.NarrowPlace.{wide_place, wide_places}
use Rattle.balise_index.proofs.places.Ranked.{first-none, first-some}
use Rattle.balise_index.proofs.places.Wide.{wide-position}
use Rattle.balise_index.proofs.links.list.place_for.Goals as goal

pub returns-in-Some-clause-rank : goal.returns-in-Some-clause-rank
returns-in-Some-clause-rank c = first-some c.args.place (wide_places c.args.list.now.items) c.in-Some.i (c.in-Some.ensures ∙ wide-position c.args.place c.args.list.now.items)

pub returns-in-None-clause-rank : goal.returns-in-None-clause-rank
returns-in-None-clause-rank c =
    c.len-in-None.ensures ∙ c.args.list.now.ok.0 ∙ sym (length-map c.args.list.now.items wide_place)
    ∙ first-none c.args.place (wide_places c.args.list.now.items) (c.in-None.ensures ∙ wide-position c.args.place c.args.list.now.items)
