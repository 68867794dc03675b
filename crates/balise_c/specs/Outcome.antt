-- What a call writes and answers.
use Rattle.std.specs.Prelude.{◌≡◌, ◌⊎◌, ◌<◌, ℕ, ℤ, pos, true, List, [], length, Option, Some, Result, Ok, Err}
use Rattle.balise_lines.specs.Lines.{Line}
use Rattle.balise_cli.specs.declared.asked.Asked.{Asked}
use Rattle.balise_text.specs.Texts.{Text}
use Rattle.balise_cli.specs.Ends.{BeginsOutput, DidLines, FailsToWrite, IsOutputOf, RunsOutOfMemory}
use Rattle.balise_cli.specs.Laws.{PrintsStanding}
use Rattle.balise_cli.specs.Output.{Ended, Phase, TooLong}
use Rattle.balise_cli.specs.Statuses.{code_of}
use Rattle.balise_text.specs.declared.run_fault.RunFault.{RunFault}
use Rattle.balise_text.specs.declared.run_fault.RunFault.TheVariants.{InputTooLong, OutOfMemory, ReadFault, WriteFault}
use Rattle.balise_cli.specs.declared.status.Status.{Status}
use Rattle.balise_c.specs.HandedOver.{FillsWith}

-- this text begins an output of the input that is longer
abbrev pub BeginsLonger : Asked → Text → Text → Type 0
BeginsLonger asked input text = (b : BeginsOutput asked input text) × (length text < length b.output)

-- The first lines of the input were done, and the text is what they print, and then a last text. P says how the run ended there, as in `run`.
abbrev pub DidLinesOf : Asked → Text → Text → (Option Text → Phase → ℕ → List Line → Text → Type 0) → Type 0
DidLinesOf asked input text P = (has : Option Text) × DidLines asked (Some input) has (Some []) (Some text) (P has)

-- memory ran out in a group or in the journal, or as the end was printed
abbrev pub RanOut : Asked → Text → Text → Type 0
RanOut asked input text = DidLinesOf asked input text (RunsOutOfMemory asked)

-- a write failed, in what a line or the end prints
abbrev pub StoppedIn : Asked → Text → Text → Type 0
StoppedIn asked input text = DidLinesOf asked input text (FailsToWrite asked)

-- A run over the whole input that wrote this text ended so.
abbrev pub Ran : Asked → Text → Text → Result Status RunFault → Type 0
Ran asked input text (Ok status) = IsOutputOf asked input text (Ended status) × PrintsStanding asked true input text status
Ran asked input text (Err InputTooLong) = IsOutputOf asked input text TooLong
Ran asked input text (Err OutOfMemory) = BeginsOutput asked input text × RanOut asked input text
Ran asked input text (Err ReadFault) = BeginsOutput asked input text
Ran asked input text (Err WriteFault) = BeginsOutput asked input text × StoppedIn asked input text

-- The text is what the program prints for the whole input, and the headline holds of it. Out of memory, it begins such a text: nothing, or what was printed until memory ran out as it may in the program. Where the output is full, what is printed is longer. No reading fails.
abbrev pub IsPrinted : Asked → Text → Text → Result Status RunFault → Type 0
IsPrinted asked input text (Ok status) = IsOutputOf asked input text (Ended status) × PrintsStanding asked true input text status
IsPrinted asked input text (Err InputTooLong) = IsOutputOf asked input text TooLong
IsPrinted asked input text (Err OutOfMemory) = BeginsOutput asked input text × ((text ≡ []) ⊎ RanOut asked input text)
IsPrinted asked input text (Err ReadFault) = ⊥
IsPrinted asked input text (Err WriteFault) = BeginsLonger asked input text

-- The text is printed as in IsPrinted, into a buffer that grows as far as memory goes: it is never full. Memory may
-- also run out for what a line or the end prints.
abbrev pub IsGrown : Asked → Text → Text → Result Status RunFault → Type 0
IsGrown asked input text (Ok status) = IsOutputOf asked input text (Ended status) × PrintsStanding asked true input text status
IsGrown asked input text (Err InputTooLong) = IsOutputOf asked input text TooLong
IsGrown asked input text (Err OutOfMemory) = BeginsOutput asked input text × ((text ≡ []) ⊎ RanOut asked input text ⊎ StoppedIn asked input text)
IsGrown asked input text (Err ReadFault) = ⊥
IsGrown asked input text (Err WriteFault) = ⊥

-- the number of a fault
abbrev pub fault_number : RunFault → ℕ
fault_number InputTooLong = 29
fault_number OutOfMemory = 30
fault_number ReadFault = 31
fault_number WriteFault = 32

-- the exit status, or the number of the fault
abbrev pub number_of : Result Status RunFault → ℕ
number_of (Ok status) = code_of status
number_of (Err fault) = fault_number fault

-- what is printed is in the output, and how the run ended is answered
abbrev pub Fills : Asked → (input old new : Text) → ℕ → ℤ → Type 0
Fills asked input old new written answer = FillsWith (IsPrinted asked input) number_of old new written answer

-- a run that ended so printed a text of this size
pub record HasSize (asked : Asked) (input : Text) (size : ℕ) (ended : Result Status RunFault) : Type 0 where
  pub text : Text
  pub is_printed : IsGrown asked input text ended
  pub is_size : size ≡ length text

-- the size of what a run prints, and how that run ended
pub record Measures (asked : Asked) (input : Text) (size : ℕ) (answer : ℤ) : Type 0 where
  pub ended : Result Status RunFault
  pub has_size : HasSize asked input size ended
  pub is_number : answer ≡ pos (number_of ended)
