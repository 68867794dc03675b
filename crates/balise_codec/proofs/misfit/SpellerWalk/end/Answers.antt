use Rattle.std.proofs.Common.{ap, sym, ◌∙◌, Ok}
use Rattle.balise_rules.specs.Forms.{shut}
use Rattle.balise_codec.specs.Misfits.{walk_values}
use Rattle.balise_codec.proofs.MisfitWalk.{values_open, values_shut}
use Rattle.balise_codec.proofs.misfit.SpellerWalk.end.Goals as goal

pub returns-then-self : goal.returns-then-self
returns-then-self c = λ _. ap (walk_values shut) (sym c.self.view_is) ∙ values_open c.self.inside.values.now c.self.inside.count c.self.inside.misfit c.if-self.true

pub returns : goal.returns
returns c = ap (walk_values shut) (sym c.self.view_is) ∙ values_shut c.self.inside.values.now c.self.inside.count c.self.inside.misfit c.if-self.false ∙ ap Ok c.self.view_is
