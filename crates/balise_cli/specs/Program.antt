-- What the program does with its input and its output, and what its words ask for.
use Rattle.std.specs.Prelude.{◌≡◌, ◌↔◌, ℕ, Bool, true, IsTrue, List, [], Option, Result, Ok, Err, codes}
use Rattle.std.specs.Io.Buffered.{writer_buffer, writer_contents}
use Rattle.std.specs.declared.io.buffered.BufWriter.{BufWriter}
use Rattle.balise_lines.specs.declared.counted.Counted.{Counted}
use Rattle.balise_arguments.specs.Arguments.{AreAccepted, IsUsed, program}
use Rattle.balise_arguments.specs.Faults.{IsFaultOf}
use Rattle.balise_arguments.specs.declared.fault.ArgsFault.{ArgsFault}
use Rattle.balise_arguments.specs.declared.options.Flags.{Flags}
use Rattle.balise_text.specs.Texts.{Text}
use Rattle.balise_cli.specs.Asking.{asked_by}
use Rattle.balise_cli.specs.Runs.{RunCounts, Runs}
use Rattle.balise_program.specs.Reporting.{count_after}
use Rattle.balise_cli.specs.Exits.{exit_of}
use Rattle.balise_program.specs.declared.exit.Exit.{Exit}
use Rattle.balise_text.specs.declared.run_fault.RunFault.{RunFault}
use Rattle.balise_cli.specs.declared.asked.Asked.{Asked}
use Rattle.balise_cli.specs.declared.status.Status.{Status}

-- There was a run and then a flush, and the exit is the one for both. Where the flush failed the count rose, and where it succeeded nothing is left in the buffer.
pub record Works {R W A : Type 0} (remaining : R → Option Text) (contents : W → Option Text) (asked : Asked) (reader reader' : Counted R) (writer writer' : Counted (BufWriter W A)) (exit : Exit) : Type 0 where
  pub ended : Result Status RunFault
  pub flushed : Bool
  pub exits : exit ≡ exit_of ended flushed
  pub runs : Runs asked (remaining reader.inner) (remaining reader'.inner) (writer_contents contents writer.inner) (writer_contents contents writer'.inner) ended
  pub count : ℕ
  pub counts : RunCounts reader.failed reader'.failed writer.failed count ended
  pub flush_counts : writer'.failed ≡ count_after flushed count
  pub empty : flushed ≡ true → writer_buffer writer'.inner ≡ []

-- a run by these flags
abbrev pub PlanWork : {R W A : Type 0} → (R → Option Text) → (W → Option Text) → Flags → Counted R → Counted R → Counted (BufWriter W A) → Counted (BufWriter W A) → Exit → Type 0
PlanWork remaining contents flags reader reader' writer writer' exit = Works remaining contents (asked_by flags) reader reader' writer writer' exit

-- the words ask for these flags, or for none
abbrev pub Asks : List Text → Result Flags ArgsFault → Type 0
Asks words (Ok flags) =
    (IsTrue flags.quiet ↔ IsUsed (codes "quiet") words)
    × (IsTrue flags.stop ↔ IsUsed (codes "stop") words)
    × (IsTrue flags.journal ↔ IsUsed (codes "journal") words)
    × (IsTrue flags.json ↔ IsUsed (codes "json") words)
    × AreAccepted words
Asks words (Err e) = IsFaultOf program words e
