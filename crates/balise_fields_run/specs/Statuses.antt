-- The exit statuses of a run that came to its end.
use Rattle.std.specs.Prelude.{ℕ, Bool, true, false}
use Rattle.balise_fields_run.specs.declared.status.Status.{Status}
use Rattle.balise_fields_run.specs.declared.status.Status.TheVariants.{AllDone, SomeRefused}

abbrev pub code_of : Status → ℕ
code_of AllDone = 0
code_of SomeRefused = 1

-- the status, by whether something was refused
abbrev pub status_of : Bool → Status
status_of true = SomeRefused
status_of false = AllDone
