use Rattle.balise_cli.proofs.Shortage as shortage
use Rattle.balise_cli.proofs.laws.shortage_shows.Goals as goal

pub returns-clause-output : goal.returns-clause-output
returns-clause-output c = shortage.shortage_shows

pub returns-clause-promised : goal.returns-clause-promised
returns-clause-promised c = shortage.promised_without

pub returns-clause-one : goal.returns-clause-one
returns-clause-one c = shortage.one_without
