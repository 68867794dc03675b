-- The exit statuses of a run that came to its end.
use Rattle.std.specs.Prelude.{ℕ, Bool, true, false}
use Rattle.balise_cli.specs.declared.status.Status.{Status}
use Rattle.balise_cli.specs.declared.status.Status.TheVariants.{Accepted, SomeRefused, BadInput}

abbrev pub code_of : Status → ℕ
code_of Accepted = 0
code_of SomeRefused = 1
code_of BadInput = 2

-- the status after commands, by whether one was refused
abbrev pub status_of : Bool → Status
status_of true = SomeRefused
status_of false = Accepted
