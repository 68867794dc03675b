use Rattle.std.proofs.Common.{◌∙◌}
use Rattle.balise_index.specs.NarrowPlace.{wide_places}
use Rattle.balise_index.proofs.places.Ranked.{among-rank}
use Rattle.balise_index.proofs.links.list.contains.Goals as goal

pub returns : goal.returns
returns c = c.is_at.ensures ∙ among-rank c.args.place.now (wide_places c.args.list.now.items) c.place_for.result c.place_for.ensures.rank c.requires
