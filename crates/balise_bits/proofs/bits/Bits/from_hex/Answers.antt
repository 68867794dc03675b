use Rattle.std.proofs.Common.{rules}
use Rattle.balise_bits.proofs.bits.Bits.from_hex.Goals as goal

pub returns-clause-ok : goal.returns-clause-ok
returns-clause-ok c = search rules

pub returns-clause-len : goal.returns-clause-len
returns-clause-len c = search rules

pub returns-clause-fault : goal.returns-clause-fault
returns-clause-fault c = search rules
