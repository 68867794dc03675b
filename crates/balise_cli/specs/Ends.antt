-- How a run ends: what was read of the input, and what was written.
use Rattle.std.specs.Prelude.{◌≡◌, ◌+◌, ◌≤◌, ℕ, true, false, List, [], ◌∷◌, ◌++◌, length, All, Option}
use Rattle.std.specs.Io.KnownBytes.{Appends, Consumes, IsAtEnd}
use Rattle.balise_lines.specs.Laws.{joined}
use Rattle.balise_lines.specs.Lines.{Fits, Line, lines_of, whole}
use Rattle.balise_lines.specs.Reading.{IsInput}
use Rattle.balise_lines.specs.Writing.{IsPartOf, IsPrefixOf}
use Rattle.balise_cli.specs.declared.asked.Asked.{Asked}
use Rattle.balise_text.specs.Texts.{Text}
use Rattle.balise_cli.specs.Laws.{PrintsStanding}
use Rattle.balise_cli.specs.Phases.{WrittenOfEnd, WrittenOfLine, last_text}
use Rattle.balise_cli.specs.Output.{Ending, Header, IsOutput, IsStep, Next, On, Over, Phase, at_end}
use Rattle.balise_cli.specs.declared.status.Status.{Status}

-- this input may have this output, and the run end so
abbrev pub IsOutputOf : Asked → Text → Text → Ending → Type 0
IsOutputOf asked input out e = IsOutput asked true Header 1 0 (lines_of input) out e

-- this text begins an output of the input
pub record BeginsOutput (asked : Asked) (input text : Text) : Type 0 where
  pub output : Text
  pub ending : Ending
  pub is_output : IsOutputOf asked input output ending
  pub begins : IsPrefixOf text output

-- A text was written. IsRead says what was read, and P what was written of it.
pub record WritesText (IsRead : Text → Type 0) (P : Text → Text → Type 0) (old new : Option Text) : Type 0 where
  pub input : Text
  pub is_input : IsRead input
  pub out : Text
  pub is_output : P input out
  pub appended : Appends old new out

-- the output of what the reader had was written, and the run ended so
abbrev pub WritesOutput : Asked → (had old new : Option Text) → Ending → Type 0
WritesOutput asked had old new e = WritesText (IsInput had) (λ input out. IsOutputOf asked input out e) old new

-- what is printed for what the reader had was written: one line for a plan or a journal that is refused; or replies, and then what the standing edits alone make of the plan first read, or facts of the session
abbrev pub WritesStanding : Asked → (had old new : Option Text) → Status → Type 0
WritesStanding asked had old new status = WritesText (IsInput had) (λ input out. PrintsStanding asked true input out status) old new

-- a beginning of the output of what was read was written
abbrev pub WritesSome : Asked → (had has old new : Option Text) → Type 0
WritesSome asked had has old new = WritesText (Consumes had has) (BeginsOutput asked) old new

-- a beginning of an output of all that the reader had was written
abbrev pub WritesBeginning : Asked → (had old new : Option Text) → Type 0
WritesBeginning asked had old new = WritesText (IsInput had) (BeginsOutput asked) old new

-- From this phase, where line n comes next and begins at this place of the input, these lines are done one after another: they print this, and the run goes on in the phase q.
abbrev pub Steps : Asked → Phase → ℕ → ℕ → List Line → Text → Phase → Type 0
Steps asked p n place [] out q = (out ≡ []) × (q ≡ p)
Steps asked p n place (line ∷ lines) out q =
    Fits place line × ((now : Text) × ((next : Phase) × ((more : Text) × (IsStep asked true p n line.bytes now (On next) × (out ≡ now ++ more) × Steps asked next (n + 1) (place + length (whole line)) lines more q))))

-- The first lines of what was read were done, and the text is what they print, and then a last text. P says how the run ended there: by its phase, the number of the next line, the lines after them, and that last text.
pub record DoesLines (asked : Asked) (P : Phase → ℕ → List Line → Text → Type 0) (read out : Text) : Type 0 where
  pub done : List Line
  pub behind : List Line
  pub cut : lines_of read ≡ done ++ behind
  pub printed : Text
  pub phase : Phase
  pub steps : Steps asked Header 1 0 done printed phase
  pub last : Text
  pub ends : P phase (length done + 1) behind last
  pub parts : out ≡ printed ++ last

-- so was written of what was read
abbrev pub DidLines : Asked → (had has old new : Option Text) → (Phase → ℕ → List Line → Text → Type 0) → Type 0
DidLines asked had has old new P = WritesText (Consumes had has) (DoesLines asked P) old new

-- the input ended, or the next line ended the run, and of what comes after it at most 4,097 bytes were read
abbrev pub ComesToEnd : Asked → Option Text → Status → Phase → ℕ → List Line → Text → Type 0
ComesToEnd asked has status p n [] last = IsAtEnd has × (at_end asked p n ≡ Over last status)
ComesToEnd asked has status p n (line ∷ behind) last =
    (length (joined behind) ≤ 4097) × ((now : Text) × ((text : Text) × (IsStep asked true p n line.bytes now (Over text status) × (last ≡ now ++ text))))

-- no complete line comes after them, and nothing else was written
abbrev pub NoneComplete : Phase → ℕ → List Line → Text → Type 0
NoneComplete p n behind last = All (λ (line : Line). line.is_ended ≡ false) behind × (last ≡ [])

-- Memory ran out in a group or in the journal, or after the last command, where the end is printed. It never ends a run between two commands. After the line that it ran out in at most 4,097 bytes were read.
abbrev pub RunsOutOfMemory : Asked → Option Text → Phase → ℕ → List Line → Text → Type 0
RunsOutOfMemory asked has p n [] last = IsAtEnd has × WrittenOfEnd asked p last
RunsOutOfMemory asked has p n (line ∷ behind) last = (length (joined behind) ≤ 4097) × WrittenOfLine asked p n line.bytes last

-- The writer failed in what the end or the next line prints, and of that a beginning was written, and not all. After that line at most 4,097 bytes were read.
abbrev pub FailsToWrite : Asked → Option Text → Phase → ℕ → List Line → Text → Type 0
FailsToWrite asked has p n [] last = IsAtEnd has × IsPartOf last (last_text (at_end asked p n))
FailsToWrite asked has p n (line ∷ behind) last =
    (length (joined behind) ≤ 4097) × ((now : Text) × ((next : Next) × (IsStep asked true p n line.bytes now next × IsPartOf last (now ++ last_text next))))
