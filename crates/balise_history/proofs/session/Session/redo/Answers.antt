use Rattle.balise_rules.specs.Session.{Redo, Redone}
use Rattle.balise_history.proofs.Bounds.{within-next}
use Rattle.balise_history.proofs.session.Session.redo.Goals as goal

pub invariant_of-self-2 : goal.invariant_of-self-2
invariant_of-self-2 c = within-next Redo c.self.inside.edited c.redo.new.self (Redone c.in_ok-serial.serial) c.self.inside.count c.in_ok-serial.ensures c.if-self-ge-MOST_COMMANDS.false c.self.invariant
