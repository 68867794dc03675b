use Rattle.balise_items.proofs.ExplainedSpelt.{packet_is_spelt, telegram_is_spelt}
use Rattle.balise_items.proofs.laws.explained_is_spelt.Goals as goal

pub returns-clause-telegram : goal.returns-clause-telegram
returns-clause-telegram c = telegram_is_spelt

pub returns-clause-packet : goal.returns-clause-packet
returns-clause-packet c = packet_is_spelt
