use Rattle.std.proofs.Common.{◌≡◌, ◌∙◌, sym, ap, arith}
use Rattle.balise_rules.specs.Packet.{Packet}
use Rattle.balise_rules.specs.declared.tag.Tag.{Tag}
use Rattle.balise_rules.proofs.Cases.{unsome}
use Rattle.balise_telegram.proofs.Walking.{lent_at, next_below}
use Rattle.balise_telegram.proofs.telegram.Telegram.lent.Goals as goal

pub number-requires-clause-within : goal.number-requires-clause-within
number-requires-clause-within c =
    let z = next_below c.packed-bits.result.now c.args.self.now c.args.place.index c.args.place.at c.packed-bits.ensures c.requires.place.1 c.requires.stands in
    omega (arith, z.within, z.least)

pub of_head-requires-clause-there : goal.of_head-requires-clause-there
of_head-requires-clause-there c =
    let t = lent_at c.packed-bits.result.now c.args.self.now c.args.place.index c.args.place.at c.version.result c.packed-bits.ensures c.requires.stands c.requires.place.1 c.version.ensures in
    (t.0.1, t.1, t.3)

pub returns : goal.returns
returns c = λ x e.
    let t = lent_at c.packed-bits.result.now c.args.self.now c.args.place.index c.args.place.at c.version.result c.packed-bits.ensures c.requires.stands c.requires.place.1 c.version.ensures in
    let same : t.0 ≡ x = unsome (sym t.2 ∙ e) in
    c.of_head.ensures t.0.1 t.1 t.3 ∙ ap (λ (q : Tag × Packet). q.1) same
