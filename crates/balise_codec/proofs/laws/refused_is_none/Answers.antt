use Rattle.balise_codec.proofs.TelegramLaws.{refused_is_none}
use Rattle.balise_codec.proofs.laws.refused_is_none.Goals as goal

pub returns : goal.returns
returns c = refused_is_none
