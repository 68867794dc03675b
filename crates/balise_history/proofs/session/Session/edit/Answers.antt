use Rattle.balise_rules.specs.Session.{Ask, Done}
use Rattle.balise_commands.specs.Commands.{command_of}
use Rattle.balise_history.proofs.Bounds.{within-next}
use Rattle.balise_history.proofs.session.Session.edit.Goals as goal

pub invariant_of-self-2 : goal.invariant_of-self-2
invariant_of-self-2 c = within-next (Ask (command_of c.args.command)) c.self.inside.edited c.edit.new.self (Done c.in_ok-serial.serial) c.self.inside.count c.in_ok-serial.ensures c.if-self-ge-MOST_COMMANDS.false c.self.invariant
