-- Whether the version knows the number, as whoever read the packet did, is whether it spells the packet.
use Rattle.std.proofs.Common.{◌≡◌, is_some, sym, ◌∙◌, ap}
use Rattle.std.specs.Cmp.{booleans_Decides}
use Rattle.balise_rules.specs.Packets.{is_known}
use Rattle.balise_layout.specs.Kinds.{number_of}
use Rattle.balise_layout.proofs.Held.{spelt_where}
use Rattle.balise_layout.proofs.Lent.{lies}
use Rattle.balise_layout.proofs.packet_ref.PacketRef.is_spelt.Goals as goal

pub returns : goal.returns
returns c =
    let own = number_of c.self.inside.kind in
    let l = lies c.self.inside c.args.self.now c.self.invariant c.self.view_is in
    let iff = spelt_where own c.args.version _ c.args.self.now l.holds in
    let test : c.is_known.result ≡ is_known c.args.version _ = c.is_known.ensures ∙ ap (is_known c.args.version) c.number.ensures in
    let known : c.is_known-2.result ≡ is_some own = c.is_known-2.ensures in
    (λ t. iff.0 (sym test ∙ (booleans_Decides _ _).0 t ∙ known), λ s. (booleans_Decides _ _).1 (test ∙ iff.1 s ∙ sym known))
