use Rattle.balise_rules.specs.Session.{Undo, Undone}
use Rattle.balise_history.proofs.Bounds.{within-next}
use Rattle.balise_history.proofs.session.Session.undo.Goals as goal

pub invariant_of-self-2 : goal.invariant_of-self-2
invariant_of-self-2 c = within-next Undo c.self.inside.edited c.undo.new.self (Undone c.in_ok-serial.serial) c.self.inside.count c.in_ok-serial.ensures c.if-self-ge-MOST_COMMANDS.false c.self.invariant
