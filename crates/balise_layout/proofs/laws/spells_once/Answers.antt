use Rattle.std.proofs.Common.{sym, ◌∙◌}
use Rattle.balise_rules.specs.Packets.{body}
use Rattle.balise_layout.proofs.First.{spells_holds}
use Rattle.balise_layout.proofs.Spelt.{held_is}
use Rattle.balise_layout.proofs.laws.spells_once.Goals as goal

pub returns : goal.returns
returns c = λ version b p q s t.
    sym (held_is (body version) b p (spells_holds version b p s)) ∙ held_is (body version) b q (spells_holds version b q t)
