use Rattle.std.proofs.lemmas.List.{take-replicate}
use Rattle.balise_bits.proofs.store.Small.zeros.Goals as goal

pub returns : goal.returns
returns c = take-replicate c.args.count 29 0 c.requires
