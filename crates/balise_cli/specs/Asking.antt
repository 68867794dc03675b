-- What is asked of a run, by the flags of the editor and by the facts that are asked for.
use Rattle.std.specs.Prelude.{true, false}
use Rattle.balise_arguments.specs.declared.options.Flags.{Flags}
use Rattle.balise_facts.specs.declared.facts.Facts.{Facts}
use Rattle.balise_cli.specs.declared.asked.Asked.{Asked}
use Rattle.balise_cli.specs.declared.asked.Closing.TheVariants as closing

abbrev pub asked_by : Flags → Asked
asked_by flags = record { quiet = flags.quiet; stop = flags.stop; closing = closing.Plan flags.journal flags.json }

-- no reply to a command that was accepted, and no stop at one that was refused
abbrev pub facts_asked : Facts → Asked
facts_asked facts = record { quiet = true; stop = false; closing = closing.Facts facts }
