use Rattle.std.proofs.Common.{rules}
use Rattle.balise_bits.proofs.bits.Bits.is_empty.Goals as goal

pub returns : goal.returns
returns c = search rules
