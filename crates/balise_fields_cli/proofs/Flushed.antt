-- What a run wrote is still there once it is flushed.
use Rattle.std.proofs.Common.{ℕ, Bool, List, ◌++◌, Option, Result, Ok, Err}
use Rattle.std.specs.Io.KnownBytes.{Keeps}
use Rattle.std.proofs.KnownBytes.{Appends-kept}
use Rattle.balise_lines.specs.Lines.{Line}
use Rattle.balise_text.specs.Texts.{Text}
use Rattle.balise_text.specs.declared.run_fault.RunFault.{RunFault}
use Rattle.balise_fields_run.specs.Explained.{AreExplained, AtEnd, FailsToWrite, RunsOutOfMemory}
use Rattle.balise_fields_run.specs.Runs.{DidLines, NoneComplete, RanOver, StopsAtLong}
use Rattle.balise_fields_run.specs.Spelt.{AreItems, ItemsAtEnd, ItemsOutOfMemory, ItemsUnwritten}
use Rattle.balise_fields_run.specs.Ways.{RanBy}
use Rattle.balise_fields_run.specs.declared.status.Status.{Status}
use Rattle.balise_fields_run.specs.declared.way.Way.{Way}
use Rattle.balise_fields_run.specs.declared.way.Way.TheVariants.{Explain, Spell}

module _ (Comes : List Line → Text → Bool → Type 0) (had has old mid new : Option Text) (k : Keeps mid new) where
  lines_kept : (P : List Line → List Line → Text → Bool → Type 0) → DidLines Comes had has old mid P → DidLines Comes had has old new P
  lines_kept P (e, wrote) = (e, Appends-kept old mid new (e.out ++ e.last) wrote k)

  long_kept : StopsAtLong Comes had old mid → StopsAtLong Comes had old new
  long_kept (e, wrote) = (e, Appends-kept old mid new e.out wrote k)

  ran_kept : (Done : Status → List Line → List Line → Text → Bool → Type 0) (Short Unwritten : List Line → List Line → Text → Bool → Type 0) (read reads written writes : ℕ) (ended : Result Status RunFault)
      → RanOver Comes Done Short Unwritten had has old mid read reads written writes ended → RanOver Comes Done Short Unwritten had has old new read reads written writes ended
  ran_kept Done Short Unwritten read reads written writes (Ok status) w = record { lines = lines_kept (Done status) w.lines; unread = w.unread; unwritten = w.unwritten }
  ran_kept Done Short Unwritten read reads written writes (Err fault) w = record {
    counts = w.counts;
    long = λ e. long_kept (w.long e);
    memory = λ e. lines_kept Short (w.memory e);
    complete = λ e. lines_kept NoneComplete (w.complete e);
    full = λ e. lines_kept Unwritten (w.full e);
  }

pub kept_by : (way : Way) (had has old mid new : Option Text) (read reads written writes : ℕ) (ended : Result Status RunFault) → Keeps mid new → RanBy way had has old mid read reads written writes ended → RanBy way had has old new read reads written writes ended
kept_by Explain had has old mid new read reads written writes ended k w = ran_kept (AreExplained 0) had has old mid new k (AtEnd has) RunsOutOfMemory FailsToWrite read reads written writes ended w
kept_by Spell had has old mid new read reads written writes ended k w = ran_kept AreItems had has old mid new k (ItemsAtEnd has) (ItemsOutOfMemory has) (ItemsUnwritten has) read reads written writes ended w
