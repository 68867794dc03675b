-- How far a run has come, and how it may go on from there.
use Rattle.std.specs.Prelude.{◌≡◌, ◌+◌, ℕ, Bool, true, List, [], ◌++◌, length, Option, Result, MatchResult}
use Rattle.std.specs.Io.KnownBytes.{Appends, Consumes}
use Rattle.balise_rules.specs.declared.refusal.Refusal.{Refusal}
use Rattle.balise_lines.specs.Laws.{joined}
use Rattle.balise_lines.specs.Lines.{Line, lines_of}
use Rattle.balise_lines.specs.Reading.{is_over, left, number_of, place_of}
use Rattle.balise_lines.specs.Writing.{AppendsPart, AppendsSome}
use Rattle.balise_lines.specs.declared.counted.Counted.{Counted}
use Rattle.balise_lines.specs.declared.lines.Lines.{Lines}
use Rattle.balise_cli.specs.declared.asked.Asked.{Asked}
use Rattle.balise_text.specs.Replies.{bad_line}
use Rattle.balise_text.specs.Texts.{Text}
use Rattle.balise_cli.specs.Ends.{ComesToEnd, DidLines, FailsToWrite, NoneComplete, Steps, RunsOutOfMemory, WritesBeginning, WritesOutput, WritesSome}
use Rattle.balise_text.specs.RunFaults.{IsFault}
use Rattle.balise_cli.specs.Output.{Ended, Header, Phase, Read, Good, Bad, TooLong}
use Rattle.balise_text.specs.declared.run_fault.RunFault.{RunFault}
use Rattle.balise_text.specs.declared.run_fault.RunFault.TheVariants as fault
use Rattle.balise_cli.specs.declared.status.Status.{Status}
use Rattle.balise_cli.specs.declared.status.Status.TheVariants.{BadInput}

-- These lines were read, and done one after another; whatever comes after them are further lines, and after a last line without an end nothing comes.
pub record Progress (asked : Asked) (had left old now : Option Text) (over : Bool) (p : Phase) (n place : ℕ) : Type 0 where
  pub read : Text
  pub written : Text
  pub lines : List Line
  pub consumed : Consumes had left read
  pub cut : (rest : Text) → (over ≡ true → rest ≡ []) → lines_of (read ++ rest) ≡ lines ++ lines_of rest
  pub appended : Appends old now written
  pub steps : Steps asked Header 1 0 lines written p
  pub numbered : n ≡ length lines + 1
  pub placed : place ≡ length (joined lines)

-- a run has come to this phase, before the next line
abbrev pub HasCome : Asked → Option Text → Option Text → Phase → Lines → Option Text → Option Text → Type 0
HasCome asked had old p lines has now = Progress asked had (left lines has) old now (is_over lines) p (number_of lines) (place_of lines)

-- the run came to its end
pub record RanToEnd (asked : Asked) (had has old new : Option Text) (read reads written writes : ℕ) (status : Status) : Type 0 where
  pub output : WritesOutput asked had old new (Ended status)
  pub lines : DidLines asked had has old new (ComesToEnd asked has status)
  pub unread : reads ≡ read
  pub unwritten : writes ≡ written

-- the run came to this fault
pub record RanToFault (asked : Asked) (had has old new : Option Text) (read reads written writes : ℕ) (e : RunFault) : Type 0 where
  pub some : WritesSome asked had has old new
  pub counts : IsFault read reads written writes e
  pub long : e ≡ fault.InputTooLong → WritesOutput asked had old new TooLong
  pub memory : e ≡ fault.OutOfMemory → DidLines asked had has old new (RunsOutOfMemory asked has)
  pub complete : e ≡ fault.ReadFault → DidLines asked had has old new NoneComplete
  pub full : e ≡ fault.WriteFault → DidLines asked had has old new (FailsToWrite asked has)
  pub begun : WritesBeginning asked had old new

-- All that is stated about how a run ended: by what the reader had and has, what was written before and since, and the
-- number of calls that had failed and have.
abbrev pub Ran : Asked → (had has old new : Option Text) → (read reads written writes : ℕ) → Result Status RunFault → Type 0
Ran asked had has old new read reads written writes result = MatchResult result (RanToEnd asked had has old new read reads written writes) (RanToFault asked had has old new read reads written writes)

-- whatever was done before, the run from this phase on ends so
abbrev pub RunsOn : {R W : Type 0} → Asked → Phase → Lines → (R → Option Text) → (W → Option Text) → Counted R → Counted R → Counted W → Counted W → Result Status RunFault → Type 0
RunsOn asked p lines remaining contents reader readers writer writers result =
    (had old : Option Text) → HasCome asked had old p lines (remaining reader.inner) (contents writer.inner)
    → Ran asked had (remaining readers.inner) old (contents writers.inner) reader.failed readers.failed writer.failed writers.failed result

-- whatever was done before, the reader fails, or a line is too long, or memory runs out, before more is written
abbrev pub FailsAt : {R : Type 0} → Phase → Lines → (R → Option Text) → Counted R → Counted R → RunFault → Type 0
FailsAt p lines remaining reader readers e =
    (asked : Asked) → (had old now : Option Text) → (writes : ℕ) → HasCome asked had old p lines (remaining reader.inner) now
    → RanToFault asked had (remaining readers.inner) old now reader.failed readers.failed writes writes e

abbrev pub FailsAhead : {R : Type 0} → Lines → (R → Option Text) → Counted R → Counted R → RunFault → Type 0
FailsAhead lines remaining reader readers e = (p : Phase) → FailsAt p lines remaining reader readers e

-- the line for what is refused is all that is still to be written
pub record IsRefused (asked : Asked) (had has old now : Option Text) (n : ℕ) (r : Refusal) : Type 0 where
  pub output : (new : Option Text) → Appends now new (bad_line n r) → WritesOutput asked had old new (Ended BadInput)
  pub lines : (new : Option Text) → Appends now new (bad_line n r) → DidLines asked had has old new (ComesToEnd asked has BadInput)
  pub some : (new : Option Text) → AppendsSome now new (bad_line n r) → WritesSome asked had has old new
  pub full : (new : Option Text) → AppendsPart now new (bad_line n r) → DidLines asked had has old new (FailsToWrite asked has)
  pub begun : (new : Option Text) → AppendsSome now new (bad_line n r) → WritesBeginning asked had old new

-- the last line was read so: the run has come to a further phase, or is refused
abbrev pub IsReadAs : Asked → Option Text → Option Text → Lines → Option Text → Option Text → Read → Type 0
IsReadAs asked had old lines has now (Good p) = HasCome asked had old p lines has now
IsReadAs asked had old lines has now (Bad n r) = IsRefused asked had has old now n r

-- whatever was done before, lines are read up to one that is read so, and no call fails; or there is a fault
abbrev pub ReadsAs : {R A : Type 0} → Phase → Lines → Lines → (R → Option Text) → Counted R → Counted R → Result A RunFault → (A → Read) → Type 0
ReadsAs p lines next remaining reader readers result read_as =
    MatchResult result
    (λ a. (readers.failed ≡ reader.failed)
    × ((asked : Asked) → (had old now : Option Text) → HasCome asked had old p lines (remaining reader.inner) now → IsReadAs asked had old next (remaining readers.inner) now (read_as a)))
    (FailsAt p lines remaining reader readers)
