use Rattle.balise_items.proofs.ExplainedPrinted.{packet_is_printed, telegram_is_printed}
use Rattle.balise_items.proofs.laws.printed_is_read.Goals as goal

pub returns-clause-telegram : goal.returns-clause-telegram
returns-clause-telegram c = telegram_is_printed

pub returns-clause-packet : goal.returns-clause-packet
returns-clause-packet c = packet_is_printed
