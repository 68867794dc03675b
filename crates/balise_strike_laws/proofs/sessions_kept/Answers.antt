use Rattle.balise_strike_laws.proofs.SessionsKept.{sessions_begin, sessions_kept}
use Rattle.balise_strike_laws.proofs.sessions_kept.Goals as goal

pub returns : goal.returns
returns c = record { begin = sessions_begin; kept = sessions_kept }
