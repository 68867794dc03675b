-- What is lent is packed as what is held.
use Rattle.std.proofs.Common.{sym, ◌∙◌}
use Rattle.balise_bits.proofs.Laid.{len_held}
use Rattle.balise_bits.proofs.bits.Bits.as_slice.Goals as goal

pub new-requires : goal.new-requires
new-requires c =
    let size = c.len.ensures ∙ sym (len_held c.self.inside.bytes c.args.self.now c.self.invariant c.self.view_is) in
    rw (size, c.as_slice.ensures.value) c.self.invariant
