-- How the program ends after a run.
use Rattle.std.specs.Prelude.{Bool, Result, Ok, Err}
use Rattle.balise_text.specs.declared.run_fault.RunFault.{RunFault}
use Rattle.balise_program.specs.Exits.{exit_after_run}
use Rattle.balise_program.specs.declared.exit.Exit.{Exit}
use Rattle.balise_cli.specs.Statuses.{code_of}
use Rattle.balise_cli.specs.declared.status.Status.{Status}

-- by whether the output was flushed
abbrev pub exit_of : Result Status RunFault → Bool → Exit
exit_of (Ok status) flushed = exit_after_run (Ok (code_of status)) flushed
exit_of (Err e) flushed = exit_after_run (Err e) flushed
