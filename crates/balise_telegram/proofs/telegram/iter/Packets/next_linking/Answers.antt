use Rattle.std.proofs.Common.{◌≡◌, ◌∙◌, ◌++◌, ◌∷◌, List, drop, sym, ap, subst}
use Rattle.balise_rules.specs.declared.tag.Tag.{Tag}
use Rattle.balise_rules.specs.Packet.{Packet}
use Rattle.balise_rules.proofs.Cases.{unsome}
use Rattle.balise_telegram.specs.Linking.{LinksFirst}
use Rattle.balise_telegram.proofs.Left.{first_left}
use Rattle.balise_telegram.proofs.Walking.{lent_with}
use Rattle.balise_telegram.proofs.telegram.iter.Packets.next_linking.Goals as goal

pub of_head-packet-requires-clause-there : goal.of_head-packet-requires-clause-there
of_head-packet-requires-clause-there c =
    let y = c.self.inside.telegram.now in
    let place = (c.to_linking-head.ensures.reaches y c.packed-packed.ensures c.self.invariant.1).place in
    let t = lent_with c.packed-packed.result.now y c.to_linking-head.result.0 c.self.inside.version c.in-Some-tag_there.tag c.packed-packed.ensures place c.self.invariant.0 c.in-Some-tag_there.ensures in
    (t.0, t.1, t.3)

pub after_lent-self-inside-requires-clause-lent : goal.after_lent-self-inside-requires-clause-lent
after_lent-self-inside-requires-clause-lent c = λ x e.
    let y = c.self.inside.telegram.now in
    let place = (c.to_linking-head.ensures.reaches y c.packed-packed.ensures c.self.invariant.1).place in
    let t = lent_with c.packed-packed.result.now y c.to_linking-head.result.0 c.self.inside.version c.in-Some-tag_there.tag c.packed-packed.ensures place c.self.invariant.0 c.in-Some-tag_there.ensures in
    c.of_head-packet.ensures t.0 t.1 t.3 ∙ ap (λ (q : Tag × Packet). q.1) (unsome (sym t.2 ∙ e))

-- it stands first of those that are left
stands : (c : goal.After-self-1) →
    drop c.to_linking-head.result.0.index c.self.inside.telegram.now.packets ≡ (c.in-Some-tag_there.tag, c.of_head-packet.result) ∷ drop c.after_lent-self-inside.result.index c.self.inside.telegram.now.packets
stands c =
    let y = c.self.inside.telegram.now in
    let place = (c.to_linking-head.ensures.reaches y c.packed-packed.ensures c.self.invariant.1).place in
    let t = lent_with c.packed-packed.result.now y c.to_linking-head.result.0 c.self.inside.version c.in-Some-tag_there.tag c.packed-packed.ensures place c.self.invariant.0 c.in-Some-tag_there.ensures in
    first_left y.packets _ c.in-Some-tag_there.tag t.0 c.after_lent-self-inside.result.index c.of_head-packet.result t.2 c.after_lent-self-inside.ensures.index (c.of_head-packet.ensures t.0 t.1 t.3)

pub returns-clause-some : goal.returns-clause-some
returns-clause-some c =
    let over = (c.to_linking-head.ensures.reaches c.self.inside.telegram.now c.packed-packed.ensures c.self.invariant.1).passes in
    (over.0, over.1, sym c.self.view_is ∙ over.2 ∙ ap (λ (ys : List (Tag × Packet)). over.0 ++ ys) (stands c))

pub returns-clause-linking : goal.returns-clause-linking
returns-clause-linking c = subst LinksFirst (stands c) (c.to_linking-head.ensures.reaches c.self.inside.telegram.now c.packed-packed.ensures c.self.invariant.1).linking
