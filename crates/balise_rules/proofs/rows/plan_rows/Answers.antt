use Rattle.std.proofs.Common.{refl}
use Rattle.balise_rules.proofs.Computed.{computed}
use Rattle.balise_rules.proofs.rows.plan_rows.Goals as goal

-- each side of a row computes to the other
pub returns : goal.returns
unfolding computed
returns c = record {
  renumbered = (refl, refl);
  renumber_refused = refl;
  turned = (refl, refl, refl);
  turn_reviewed = refl;
  four_packets = (refl, refl, refl, refl, refl);
  refilled = refl;
  link_struck = refl;
  nothing_done = refl;
  dropped_and_added = (refl, refl);
  plans_refused = (refl, refl, refl, refl, refl, refl, refl, refl, refl);
  edited_after_undo = refl;
}
