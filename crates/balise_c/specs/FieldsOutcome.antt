-- What a call writes and answers that turns digits into fields, or fields into digits.
use Rattle.std.specs.Prelude.{◌≡◌, ◌⊎◌, ◌<◌, ℕ, ℤ, [], length, Option, Some, Result, Ok, Err}
use Rattle.balise_lines.specs.Writing.{IsPrefixOf}
use Rattle.balise_text.specs.Texts.{Text}
use Rattle.balise_text.specs.declared.run_fault.RunFault.{RunFault}
use Rattle.balise_text.specs.declared.run_fault.RunFault.TheVariants.{InputTooLong, OutOfMemory, ReadFault, WriteFault}
use Rattle.balise_fields_run.specs.Statuses.{code_of}
use Rattle.balise_fields_run.specs.Ways.{RanBy}
use Rattle.balise_fields_run.specs.declared.status.Status.{Status}
use Rattle.balise_fields_run.specs.declared.way.Way.{Way}
use Rattle.balise_c.specs.HandedOver.{FillsWith}
use Rattle.balise_c.specs.Outcome.{fault_number}

-- A run of this way over the whole input that wrote this text ended so.
pub record WroteBy (way : Way) (input text : Text) (ended : Result Status RunFault) : Type 0 where
  pub has : Option Text
  pub reads : ℕ
  pub writes : ℕ
  pub ran : RanBy way (Some input) has (Some []) (Some text) 0 reads 0 writes ended

-- this text begins what such a run writes, which is longer
pub record BeginsWhatIsWritten (way : Way) (input text : Text) : Type 0 where
  pub written : Text
  pub ended : Result Status RunFault
  pub wrote : WroteBy way input written ended
  pub begins : IsPrefixOf text written
  pub longer : length text < length written

-- The text is what the program balisefields prints for the whole input. Out of memory, it is nothing, or what was printed until memory ran out as it may in the program. Where the output is full, what is printed is longer. No reading fails.
abbrev pub IsPrintedBy : Way → Text → Text → Result Status RunFault → Type 0
IsPrintedBy way input text (Ok status) = WroteBy way input text (Ok status)
IsPrintedBy way input text (Err InputTooLong) = WroteBy way input text (Err InputTooLong)
IsPrintedBy way input text (Err OutOfMemory) = (text ≡ []) ⊎ WroteBy way input text (Err OutOfMemory)
IsPrintedBy way input text (Err ReadFault) = ⊥
IsPrintedBy way input text (Err WriteFault) = BeginsWhatIsWritten way input text

-- the exit status, or the number of the fault
abbrev pub fields_number : Result Status RunFault → ℕ
fields_number (Ok status) = code_of status
fields_number (Err fault) = fault_number fault

-- what is written is in the output, and how the run ended is answered
abbrev pub FillsBy : Way → (input old new : Text) → ℕ → ℤ → Type 0
FillsBy way input old new written answer = FillsWith (IsPrintedBy way input) fields_number old new written answer
