use Rattle.balise_commands.specs.Lines.{line_in}
use Rattle.balise_history.proofs.Reading.{enters-within}
use Rattle.balise_history.proofs.opening.Opening.enter.Goals as goal

pub invariant_of-self : goal.invariant_of-self
invariant_of-self c = enters-within c.self.inside.edited c.entry.new.self (line_in c.args.line) c.entry.result c.self.invariant c.entry.ensures.enters
