use Rattle.balise_codec.proofs.TelegramLaws.{read_is_of, one_telegram}
use Rattle.balise_codec.proofs.laws.explained_is_spelt.Goals as goal

pub returns-clause-own : goal.returns-clause-own
returns-clause-own c = read_is_of

pub returns-clause-one : goal.returns-clause-one
returns-clause-one c = one_telegram
