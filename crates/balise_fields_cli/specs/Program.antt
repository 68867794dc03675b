-- What the program does with its input and its output.
use Rattle.std.specs.Prelude.{◌≡◌, ℕ, Bool, true, [], Option, Result}
use Rattle.std.specs.Io.Buffered.{writer_buffer, writer_contents}
use Rattle.std.specs.declared.io.buffered.BufWriter.{BufWriter}
use Rattle.balise_lines.specs.declared.counted.Counted.{Counted}
use Rattle.balise_text.specs.Texts.{Text}
use Rattle.balise_text.specs.declared.run_fault.RunFault.{RunFault}
use Rattle.balise_fields_run.specs.Ways.{RanBy}
use Rattle.balise_fields_run.specs.declared.status.Status.{Status}
use Rattle.balise_fields_run.specs.declared.way.Way.{Way}
use Rattle.balise_program.specs.Reporting.{count_after}
use Rattle.balise_program.specs.declared.exit.Exit.{Exit}
use Rattle.balise_fields_cli.specs.Exits.{exit_of}

-- There was a run of this way and then a flush, and the exit is the one for both. Where the flush failed the count rose, and where it succeeded nothing is left in the buffer.
pub record Works {R W A : Type 0} (remaining : R → Option Text) (contents : W → Option Text) (way : Way) (reader reader' : Counted R) (writer writer' : Counted (BufWriter W A)) (exit : Exit) : Type 0 where
  pub ended : Result Status RunFault
  pub flushed : Bool
  pub exits : exit ≡ exit_of ended flushed
  pub count : ℕ
  pub ran : RanBy way (remaining reader.inner) (remaining reader'.inner) (writer_contents contents writer.inner) (writer_contents contents writer'.inner) reader.failed reader'.failed writer.failed count ended
  pub flush_counts : writer'.failed ≡ count_after flushed count
  pub empty : flushed ≡ true → writer_buffer writer'.inner ≡ []
