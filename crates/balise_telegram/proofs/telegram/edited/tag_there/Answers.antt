use Rattle.std.proofs.Common.{arith}
use Rattle.balise_telegram.proofs.KeptTags.{read_tag}
use Rattle.balise_telegram.proofs.Walking.{few}
use Rattle.balise_telegram.proofs.telegram.edited.tag_there.Goals as goal

pub overflow_cast-result : goal.overflow_cast-result
overflow_cast-result c = omega (arith, few c.args.bits.now c.requires.0 c.requires.1, c.requires.3)

pub returns : goal.returns
returns c = λ y s p below u. read_tag y.packets c.args.place.index u below
