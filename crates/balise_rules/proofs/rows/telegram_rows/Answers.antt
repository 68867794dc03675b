use Rattle.std.proofs.Common.{refl}
use Rattle.balise_rules.proofs.Computed.{computed}
use Rattle.balise_rules.proofs.rows.telegram_rows.Goals as goal

-- each side of a row computes to the other
pub returns : goal.returns
unfolding computed
returns c = record {
  unchanged = (refl, refl, refl);
  set_and_undone = (refl, refl, refl);
  inserted_and_undone = (refl, refl);
  spare_refused = (refl, refl);
  padding_kept = (refl, refl, refl, refl);
  filled = refl;
  digits_refused = refl;
  link_set = refl;
  profile_set = (refl, refl);
  others_set = (refl, refl, refl);
}
