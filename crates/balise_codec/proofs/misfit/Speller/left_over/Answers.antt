use Rattle.std.proofs.Common.{ap, ◌∙◌}
use Rattle.balise_codec.specs.Misfits.{too_many, Progress}
use Rattle.balise_codec.proofs.MisfitWalk.{many_left}
use Rattle.balise_codec.proofs.misfit.Speller.left_over.Goals as goal

pub returns-then-self : goal.returns-then-self
returns-then-self c = many_left c.self.inside.values.now c.self.inside.count c.self.inside.count c.if-self.true ∙ ap (λ (s : Progress). too_many s.count s.left) c.self.view_is
