-- How a program ends: its exit status, and the fault that it reports.
use Rattle.std.specs.Prelude.{ℕ, Bool, true, false, Some, None, Result, Ok, Err}
use Rattle.balise_rules.specs.declared.refusal.Refusal.TheVariants as refusal
use Rattle.balise_arguments.specs.declared.fault.ArgsFault.{ArgsFault}
use Rattle.balise_arguments.specs.declared.fault.ArgsFault.TheVariants.{Help, Memory, Other}
use Rattle.balise_text.specs.RunFaults.{refusal_of}
use Rattle.balise_text.specs.declared.run_fault.RunFault.{RunFault}
use Rattle.balise_program.specs.declared.exit.Exit.{Exit}

-- after a run with a status of its own, by whether the output was flushed
abbrev pub exit_after_run : Result ℕ RunFault → Bool → Exit
exit_after_run (Err e) flushed = record { code = 3; fault = Some (refusal_of e) }
exit_after_run (Ok code) true = record { code = code; fault = None }
exit_after_run (Ok code) false = record { code = 3; fault = Some refusal.WriteFault }

-- where the arguments ask for no run
abbrev pub exit_after_arguments : ArgsFault → Exit
exit_after_arguments (Help e) = record { code = 0; fault = None }
exit_after_arguments Memory = record { code = 3; fault = Some refusal.OutOfMemory }
exit_after_arguments (Other e) = record { code = 64; fault = None }
