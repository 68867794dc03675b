-- What a command of this crate asks of a session.
use Rattle.balise_rules.specs.Session as session
use Rattle.balise_commands.specs.Commands.{command_of}
use Rattle.balise_text.specs.declared.request.Request.{Request}
use Rattle.balise_text.specs.declared.request.Request.TheVariants.{Edit, Undo, Redo, Strike}

abbrev pub call : Request → session.Call
call (Edit c) = session.Ask (command_of c)
call Undo = session.Undo
call Redo = session.Redo
call (Strike s) = session.Strike s
