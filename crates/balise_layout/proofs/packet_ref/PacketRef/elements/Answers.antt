-- What was found along the way is the identities of the elements.
use Rattle.std.proofs.Common.{ℕ, List, refl, ap, ◌∙◌}
use Rattle.balise_rules.specs.declared.identity.Id.{Id}
use Rattle.balise_rules.specs.Packet.{width}
use Rattle.balise_layout.specs.Walks.{kept}
use Rattle.balise_layout.specs.Layouts.{next_of}
use Rattle.balise_layout.specs.Kinds.{number_of}
use Rattle.balise_layout.specs.Linked.{link}
use Rattle.balise_layout.proofs.ElementsFound.{links_found}
use Rattle.balise_layout.proofs.FewElements.{few_elements}
use Rattle.balise_layout.proofs.Held.{visited, not_stuck}
use Rattle.balise_layout.proofs.Lent.{lies}
use Rattle.balise_layout.proofs.packet_ref.PacketRef.elements.Goals as goal

pub returns : goal.returns
returns c =
    let i = c.self.inside in
    let p = c.args.self.now in
    let next = next_of (number_of i.kind) in
    let l = lies i p c.self.invariant c.self.view_is in
    c.into_elements.ensures
    ∙ ap (λ (x : ℕ × List Id). x.1) (c.into_visitor.ensures ∙ visited link next c.new.result _ p c.new-walker.result c.walk.new.walker l.holds c.new-walker.ensures c.in-Ok.ensures ∙ ap (λ (a : ℕ × List Id). kept link a (width p) p.fields) c.new.ensures)
    ∙ links_found c.args.country (width p) p l.holds.numbered (few_elements i.kind _ p l.holds)

pub returns-in_default : goal.returns-in_default
returns-in_default c =
    let i = c.self.inside in
    let p = c.args.self.now in
    let next = next_of (number_of i.kind) in
    let l = lies i p c.self.invariant c.self.view_is in
    absurd (not_stuck link next c.new.result _ p c.new-walker.result _ _ l.holds c.new-walker.ensures (c.in_default.ensures (λ _. refl)))
