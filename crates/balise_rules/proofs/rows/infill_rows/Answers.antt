use Rattle.std.proofs.Common.{refl}
use Rattle.balise_rules.proofs.Computed.{computed}
use Rattle.balise_rules.proofs.rows.infill_rows.Goals as goal

-- each side of a row computes to the other
pub returns : goal.returns
unfolding computed
returns c = record {
  renumbered = (refl, refl, refl);
  taken = refl;
  set = refl;
  cut = refl;
  reviewed = refl;
}
