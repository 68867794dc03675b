-- The field stands at its place in every packet.
use Rattle.std.proofs.Common.{◌∙◌, arith}
use Rattle.balise_layout.proofs.Lent.{lies, lies_within, number_lies}
use Rattle.balise_layout.proofs.packet_ref.PacketRef.number.Goals as goal

pub number-requires-clause-within : goal.number-requires-clause-within
number-requires-clause-within c = omega (arith, lies_within _ _ _ _ _ (lies c.self.inside c.args.self.now c.self.invariant c.self.view_is))

pub returns : goal.returns
returns c = c.number.ensures ∙ number_lies _ _ _ _ _ (lies c.self.inside c.args.self.now c.self.invariant c.self.view_is)
