-- All that is promised of a run, by what it came to.
use Rattle.std.proofs.Common.{ℕ, true, Option, Result, Ok, Err}
use Rattle.balise_text.specs.Texts.{Text}
use Rattle.balise_text.specs.declared.run_fault.RunFault.{RunFault}
use Rattle.balise_cli.specs.Ends.{WritesOutput, WritesStanding}
use Rattle.balise_cli.specs.Output.{Ended}
use Rattle.balise_cli.specs.Progress.{Ran}
use Rattle.balise_cli.specs.Runs.{RunCounts, Runs}
use Rattle.balise_cli.specs.declared.asked.Asked.{Asked}
use Rattle.balise_cli.specs.declared.status.Status.{Status}
use Rattle.balise_cli.proofs.Headline.{standing_printed}

module _ (asked : Asked) (had has old new : Option Text) where
  -- the headline holds of an output
  standing : (status : Status) → WritesOutput asked had old new (Ended status) → WritesStanding asked had old new status
  standing status w = record { input = w.input; is_input = w.is_input; out = w.out; is_output = standing_printed asked true w.input w.out status w.is_output; appended = w.appended }

  module _ (read reads written writes : ℕ) where
    pub runs : (result : Result Status RunFault) → Ran asked had has old new read reads written writes result → Runs asked had has old new result
    runs (Ok status) ran = record { held = standing status ran.output; ok = ran.output; read = ran.lines; long = λ h. absurd cc; memory = λ h. absurd cc; complete = λ h. absurd cc; full = λ h. absurd cc; begun = tt; some = tt }
    runs (Err e) ran = record { held = tt; ok = tt; read = tt; long = λ h. ran.long cc; memory = λ h. ran.memory cc; complete = λ h. ran.complete cc; full = λ h. ran.full cc; begun = ran.begun; some = ran.some }

    pub counts : (result : Result Status RunFault) → Ran asked had has old new read reads written writes result → RunCounts read reads written writes result
    counts (Ok status) ran = record { unread = ran.unread; unwritten = ran.unwritten; fault = tt }
    counts (Err e) ran = record { unread = tt; unwritten = tt; fault = ran.counts }
