use Rattle.balise_rules.proofs.TelegramShown.{telegram_read}
use Rattle.balise_rules.proofs.TelegramAgain.{telegram_again}
use Rattle.balise_rules.proofs.laws.telegrams_read.Goals as goal

pub returns : goal.returns
returns c = record { exactly = λ b y. (telegram_read b y, telegram_again b y); shown = λ b y e. (telegram_read b y e).shows }
