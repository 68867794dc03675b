-- The faults of a run, by what the next line or the writing came to, whatever its lines come to.
use Rattle.std.proofs.Common.{◌≡◌, ◌∙◌, ℕ, Bool, List, Option, sym, ap, subst}
use Rattle.balise_lines.specs.Counts.{one_more}
use Rattle.balise_lines.specs.Lines.{Line}
use Rattle.balise_lines.specs.Reading.{OverAtEnd}
use Rattle.balise_lines.specs.Writing.{LastFailed, WritesSome}
use Rattle.balise_lines.specs.declared.counted.Counted.{Counted}
use Rattle.balise_lines.specs.declared.lines.Lines.{Lines}
use Rattle.balise_text.specs.Texts.{Text}
use Rattle.balise_text.specs.declared.run_fault.RunFault.{RunFault}
use Rattle.balise_text.specs.declared.run_fault.RunFault.TheVariants.{InputTooLong, OutOfMemory, ReadFault, WriteFault}
use Rattle.balise_fields_run.specs.Runs.{DidLines, RanToFault}
use Rattle.balise_fields_run.specs.Steps.{NoneAhead}
use Rattle.balise_fields_run.proofs.RunSteps.{HasCome, failed_ahead, long_ahead}

module _ {Comes : List Line → Text → Bool → Type 0} {Short Unwritten : List Line → List Line → Text → Bool → Type 0} where
  -- no line was read
  pub none_ahead : {R : Type 0} (remaining : R → Option Text) (had old now : Option Text) (l m : Lines) (reader readers : Counted R) (refused : Bool) (read written writes : ℕ) (e : RunFault) → HasCome Comes had old l (remaining reader.inner) now refused
      → NoneAhead remaining l m reader readers e → OverAtEnd l (remaining reader.inner) → reader.failed ≡ read → writes ≡ written → RanToFault Comes Short Unwritten had (remaining readers.inner) old now read readers.failed written writes e
  none_ahead remaining had old now l m reader readers refused read written writes InputTooLong go n end r w = record {
    counts = (n.2 ∙ r, w);
    long = λ _. long_ahead Comes had old now l m (remaining reader.inner) (remaining readers.inner) refused go n.0 n.1;
    memory = λ e. absurd cc;
    complete = λ e. absurd cc;
    full = λ e. absurd cc;
  }
  none_ahead remaining had old now l m reader readers refused read written writes ReadFault go n end r w = record {
    counts = (n.2 ∙ ap one_more r, w);
    long = λ e. absurd cc;
    memory = λ e. absurd cc;
    complete = λ _. failed_ahead Comes had old now l m (remaining reader.inner) (remaining readers.inner) refused go n.0 n.1 end;
    full = λ e. absurd cc;
  }
  none_ahead remaining had old now l m reader readers refused read written writes OutOfMemory go n end r w = absurd n
  none_ahead remaining had old now l m reader readers refused read written writes WriteFault go n end r w = absurd n

  module _ {W : Type 0} (contents : W → Option Text) (had has old : Option Text) (writer writers : Counted W) (read reads written : ℕ) (r : reads ≡ read) (w : writer.failed ≡ written) where
    -- memory ran out before anything was written
    pub without_memory : DidLines Comes had has old (contents writer.inner) Short → writers ≡ writer → RanToFault Comes Short Unwritten had has old (contents writers.inner) read reads written writers.failed OutOfMemory
    without_memory did same = record {
      counts = (r, ap (λ (x : Counted W). x.failed) same ∙ w);
      long = λ e. absurd cc;
      memory = λ _. subst (λ (x : Counted W). DidLines Comes had has old (contents x.inner) Short) (sym same) did;
      complete = λ e. absurd cc;
      full = λ e. absurd cc;
    }

    -- the writer failed
    pub unwritten : (text : Text) → WritesSome LastFailed contents writer writers text → DidLines Comes had has old (contents writers.inner) Unwritten → RanToFault Comes Short Unwritten had has old (contents writers.inner) read reads written writers.failed WriteFault
    unwritten text some did = record {
      counts = (r, some.cause ∙ ap one_more w);
      long = λ e. absurd cc;
      memory = λ e. absurd cc;
      complete = λ e. absurd cc;
      full = λ _. did;
    }
