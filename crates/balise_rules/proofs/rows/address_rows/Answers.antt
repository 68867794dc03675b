use Rattle.std.proofs.Common.{refl}
use Rattle.balise_rules.proofs.Computed.{computed}
use Rattle.balise_rules.proofs.rows.address_rows.Goals as goal

-- each side of a row computes to the other
pub returns : goal.returns
unfolding computed
returns c = record {
  resolved = (refl, refl, refl, refl, refl, refl, refl, refl, refl, refl, refl);
  groups_refused = (refl, refl, refl, refl, refl);
  versions_told = (refl, refl, refl);
  length_first = refl;
  nothing_named = (refl, refl, refl);
  last_accepted = refl;
}
