use Rattle.balise_codec.proofs.TelegramLaws.{spelt_is_explained}
use Rattle.balise_codec.proofs.laws.spelt_is_explained.Goals as goal

pub returns : goal.returns
returns c = spelt_is_explained
