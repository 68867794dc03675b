use Rattle.balise_items.proofs.SpeltRead.{spelt_is_packet, spelt_is_telegram}
use Rattle.balise_items.proofs.laws.spelt_is_explained.Goals as goal

pub returns-clause-telegram : goal.returns-clause-telegram
returns-clause-telegram c = spelt_is_telegram

pub returns-clause-packet : goal.returns-clause-packet
returns-clause-packet c = spelt_is_packet
