use Rattle.balise_edit_laws.proofs.ReadyCommands.{command_ready}
use Rattle.balise_edit_laws.proofs.commands_ready.Goals as goal

pub returns : goal.returns
returns c = command_ready
