use Rattle.std.proofs.Common.{sym, ap, ◌∙◌, length}
use Rattle.balise_bits.proofs.Packing.{length-view}
use Rattle.balise_bits.proofs.bits.Bits.len.Goals as goal

pub returns : goal.returns
returns c = c.len.ensures ∙ sym (length-view c.self.inside.bytes.len c.self.inside.bytes.items c.self.invariant) ∙ ap length c.self.view_is
