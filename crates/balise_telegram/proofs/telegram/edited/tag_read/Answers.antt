use Rattle.balise_telegram.proofs.KeptTags.{no_tag}
use Rattle.balise_telegram.proofs.telegram.edited.tag_read.Goals as goal

pub returns-in_default : goal.returns-in_default
returns-in_default c = λ y s p u. no_tag y.packets c.args.place.index (c.in_default.ensures.none y s p)
