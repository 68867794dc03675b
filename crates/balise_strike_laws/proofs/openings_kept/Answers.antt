use Rattle.balise_strike_laws.proofs.SessionsKept.{openings_begin, openings_kept}
use Rattle.balise_strike_laws.proofs.openings_kept.Goals as goal

pub returns : goal.returns
returns c = record { begin = openings_begin; kept = openings_kept }
