use Rattle.std.proofs.Common.{refl}
use Rattle.balise_rules.proofs.Computed.{computed}
use Rattle.balise_rules.proofs.rows.journal_rows.Goals as goal

-- each side of a row computes to the other
pub returns : goal.returns
unfolding computed
returns c = record {
  set_said = (refl, refl, refl, refl);
  struck_said = (refl, refl);
  entry_follows = (refl, refl);
  next_refused = (refl, refl, refl);
  serials_refused = (refl, refl, refl, refl, refl);
  notes_refused = (refl, refl, refl, refl, refl, refl, refl);
  stack_refused = (refl, refl, refl, refl, refl);
}
