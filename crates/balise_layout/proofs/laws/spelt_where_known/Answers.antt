use Rattle.balise_layout.proofs.Layouts.{next_spelt}
use Rattle.balise_layout.proofs.laws.spelt_where_known.Goals as goal

pub returns : goal.returns
returns g c = next_spelt g.L.Layout.NUMBER
