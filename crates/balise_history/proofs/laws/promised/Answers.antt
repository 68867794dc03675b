use Rattle.std.proofs.Common.{subst}
use Rattle.balise_history.specs.Sessions.{Seen}
use Rattle.balise_strike_laws.specs.Headline.{Promised}
use Rattle.balise_history.proofs.laws.promised.Goals as goal

pub returns : goal.returns
returns c = subst (λ (s : Seen). Promised s.state.base s.state) c.session.view_is (c.promise.ensures c.session.inside.count)
