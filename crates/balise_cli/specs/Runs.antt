-- All that is promised of how a run ended.
use Rattle.std.specs.Prelude.{◌≡◌, ℕ, IfErr, IfOk, IsErrOf, OnErr, OnOk, Option, Result}
use Rattle.balise_text.specs.RunFaults.{IsFault}
use Rattle.balise_text.specs.Texts.{Text}
use Rattle.balise_text.specs.declared.run_fault.RunFault.{RunFault}
use Rattle.balise_text.specs.declared.run_fault.RunFault.TheVariants as fault
use Rattle.balise_cli.specs.Ends as ends
use Rattle.balise_cli.specs.Output.{Ended, TooLong}
use Rattle.balise_cli.specs.declared.asked.Asked.{Asked}
use Rattle.balise_cli.specs.declared.status.Status.{Status}

-- how a run ended, by what the reader had and has and what the writer held and holds: each clause of `run` on them
pub record Runs (asked : Asked) (had has old new : Option Text) (ended : Result Status RunFault) : Type 0 where
  pub held : IfOk ended (ends.WritesStanding asked had old new)
  pub ok : IfOk ended (λ status. ends.WritesOutput asked had old new (Ended status))
  pub read : IfOk ended (λ status. ends.DidLines asked had has old new (ends.ComesToEnd asked has status))
  pub long : IsErrOf ended fault.InputTooLong → ends.WritesOutput asked had old new TooLong
  pub memory : IsErrOf ended fault.OutOfMemory → ends.DidLines asked had has old new (ends.RunsOutOfMemory asked has)
  pub complete : IsErrOf ended fault.ReadFault → ends.DidLines asked had has old new ends.NoneComplete
  pub full : IsErrOf ended fault.WriteFault → ends.DidLines asked had has old new (ends.FailsToWrite asked has)
  pub begun : OnErr ended (ends.WritesBeginning asked had old new)
  pub some : OnErr ended (ends.WritesSome asked had has old new)

-- the same of the counts of failed calls
pub record RunCounts (read reads written writes : ℕ) (ended : Result Status RunFault) : Type 0 where
  pub unread : OnOk ended (reads ≡ read)
  pub unwritten : OnOk ended (writes ≡ written)
  pub fault : IfErr ended (IsFault read reads written writes)
