use Rattle.balise_rules.specs.Session.{Strike, Struck}
use Rattle.balise_history.proofs.Bounds.{within-next}
use Rattle.balise_history.proofs.session.Session.strike.Goals as goal

pub invariant_of-self-2 : goal.invariant_of-self-2
invariant_of-self-2 c = within-next (Strike c.args.serial) c.self.inside.edited c.strike.new.self (Struck c.in_ok-struck.struck.serial) c.self.inside.count c.in_ok-struck.ensures.answers c.if-self-ge-MOST_COMMANDS.false c.self.invariant
