-- What was collected is the fields.
use Rattle.std.proofs.Common.{[], ap, ◌∙◌}
use Rattle.balise_rules.specs.Forms.{Fields}
use Rattle.balise_rules.specs.Packet.{width}
use Rattle.balise_layout.specs.Walks.{kept, collect}
use Rattle.balise_layout.proofs.Walks.{kept_collect}
use Rattle.balise_layout.proofs.packet_ref.PacketRef.fields.Goals as goal

pub returns-clause-ok : goal.returns-clause-ok
returns-clause-ok c =
    let p = c.args.self.now in
    c.into_fields.ensures
    ∙ c.in_ok-visit.ensures.shows
    ∙ ap (λ (a : Fields). kept collect a (width p) p.fields) c.new.ensures
    ∙ kept_collect [] p.fields (width p) c.in_ok-visit.ensures.numbered
