use Rattle.balise_layout.proofs.Layouts.{next_steady}
use Rattle.balise_layout.proofs.laws.is_steady.Goals as goal

pub returns : goal.returns
returns g c = next_steady g.L.Layout.NUMBER
