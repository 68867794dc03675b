use Rattle.balise_rules.specs.Bits.{bits}
use Rattle.balise_rules.proofs.Numbers.{length-bits}
use Rattle.balise_bits.proofs.Short.{flat-front}
use Rattle.balise_bits.proofs.store.Small.of_number.Goals as goal

pub returns : goal.returns
returns c = flat-front c.put_in.new.window _ (bits 64 c.args.number) c.args.count c.requires (length-bits 64 c.args.number) c.put_in.ensures
