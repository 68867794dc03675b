use Rattle.balise_history.proofs.Reading.{strikes-within}
use Rattle.balise_history.proofs.opening.Opening.strike.Goals as goal

pub invariant_of-self : goal.invariant_of-self
invariant_of-self c = strikes-within (λ x. x.serial) c.self.inside.edited c.strike.new.self c.args.serial c.strike.result c.self.invariant c.strike.ensures.answers c.strike.ensures.few
