use Rattle.balise_fields_run.proofs.ExplainedBack.{packet_is_explained_back, telegram_is_explained_back}
use Rattle.balise_fields_run.proofs.laws.spelled_is_explained_back.Goals as goal

pub returns-clause-telegram : goal.returns-clause-telegram
returns-clause-telegram c = telegram_is_explained_back

pub returns-clause-packet : goal.returns-clause-packet
returns-clause-packet c = packet_is_explained_back
