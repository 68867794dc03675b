use Rattle.std.proofs.Common.{refl}
use Rattle.balise_rules.proofs.Computed.{computed}
use Rattle.balise_rules.proofs.rows.strike_rows.Goals as goal

-- each side of a row computes to the other
pub returns : goal.returns
unfolding computed
returns c = record {
  two_inserted = (refl, refl, refl);
  two_added = (refl, refl);
  moved_behind = (refl, refl);
}
