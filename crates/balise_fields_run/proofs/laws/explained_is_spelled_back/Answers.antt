use Rattle.balise_fields_run.proofs.SpelledBack.{packet_is_spelled_back, telegram_is_spelled_back}
use Rattle.balise_fields_run.proofs.laws.explained_is_spelled_back.Goals as goal

pub returns-clause-telegram : goal.returns-clause-telegram
returns-clause-telegram c = telegram_is_spelled_back

pub returns-clause-packet : goal.returns-clause-packet
returns-clause-packet c = packet_is_spelled_back
