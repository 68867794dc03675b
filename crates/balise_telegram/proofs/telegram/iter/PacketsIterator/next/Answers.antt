use Rattle.std.proofs.Common.{◌∙◌, sym, ap}
use Rattle.balise_rules.specs.Packet.{Packet}
use Rattle.balise_rules.specs.declared.tag.Tag.{Tag}
use Rattle.balise_rules.proofs.Cases.{unsome}
use Rattle.balise_telegram.proofs.Left.{first_left, none_left, past_all}
use Rattle.balise_telegram.proofs.Walking.{lent_with}
use Rattle.balise_telegram.proofs.telegram.iter.PacketsIterator.next.Goals as goal

pub returns-in_default-clause-steps : goal.returns-in_default-clause-steps
returns-in_default-clause-steps c =
    let y = c.self.inside.telegram.now in
    let none = sym c.self.view_is ∙ past_all y.packets c.self.inside.place.index (c.in_default.ensures.none y c.packed-packed.ensures c.self.invariant.1) in
    (none, none)

pub returns-in_default-tag_there-clause-steps : goal.returns-in_default-tag_there-clause-steps
returns-in_default-tag_there-clause-steps c =
    let none = sym c.self.view_is ∙ none_left c.self.inside.telegram.now.packets c.self.inside.place.index c.in_default-tag_there.ensures in
    (none, none)

pub of_head-packet-requires-clause-there : goal.of_head-packet-requires-clause-there
of_head-packet-requires-clause-there c =
    let t = lent_with c.packed-packed.result.now c.self.inside.telegram.now c.self.inside.place c.self.inside.version c.in-Some-tag_there.tag c.packed-packed.ensures c.self.invariant.1 c.self.invariant.0 c.in-Some-tag_there.ensures in
    (t.0, t.1, t.3)

pub after_lent-self-inside-requires-clause-lent : goal.after_lent-self-inside-requires-clause-lent
after_lent-self-inside-requires-clause-lent c = λ x e.
    let t = lent_with c.packed-packed.result.now c.self.inside.telegram.now c.self.inside.place c.self.inside.version c.in-Some-tag_there.tag c.packed-packed.ensures c.self.invariant.1 c.self.invariant.0 c.in-Some-tag_there.ensures in
    c.of_head-packet.ensures t.0 t.1 t.3 ∙ ap (λ (q : Tag × Packet). q.1) (unsome (sym t.2 ∙ e))

pub returns-clause-steps : goal.returns-clause-steps
returns-clause-steps c =
    let y = c.self.inside.telegram.now in
    let t = lent_with c.packed-packed.result.now y c.self.inside.place c.self.inside.version c.in-Some-tag_there.tag c.packed-packed.ensures c.self.invariant.1 c.self.invariant.0 c.in-Some-tag_there.ensures in
    sym c.self.view_is ∙ first_left y.packets _ c.in-Some-tag_there.tag t.0 c.after_lent-self-inside.result.index c.of_head-packet.result t.2 c.after_lent-self-inside.ensures.index (c.of_head-packet.ensures t.0 t.1 t.3)
