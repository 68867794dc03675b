use Rattle.std.proofs.Common.{sym, ◌∙◌}
use Rattle.balise_layout.proofs.packet_ref.PacketRef.links.Goals as goal

pub returns-clause-ok : goal.returns-clause-ok
returns-clause-ok c = c.in_ok-from_slice.ensures.items ∙ c.as_slice.ensures.all ∙ c.elements-elements.ensures

pub returns-then-not-has_elements-clause-ok : goal.returns-then-not-has_elements-clause-ok
returns-then-not-has_elements-clause-ok c = c.new.ensures.items ∙ sym (c.has_elements.ensures.none c.if-not-has_elements.true c.args.country)
