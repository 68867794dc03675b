-- How a run over lines ends, by what its lines come to: `Comes lines out refused` says that this is printed for these lines,
-- the first of the input, and whether some of them are refused.
use Rattle.std.specs.Prelude.{◌≡◌, ℕ, Bool, false, List, ◌∷◌, [], ◌++◌, length, All, Option, Result, MatchResult}
use Rattle.std.specs.Io.KnownBytes.{Appends, Consumes}
use Rattle.balise_lines.specs.Laws.{joined}
use Rattle.balise_lines.specs.Lines.{Fits, Line, lines_of}
use Rattle.balise_lines.specs.Reading.{IsInput}
use Rattle.balise_text.specs.Texts.{Text}
use Rattle.balise_text.specs.declared.run_fault.RunFault.{RunFault}
use Rattle.balise_text.specs.declared.run_fault.RunFault.TheVariants as fault
use Rattle.balise_text.specs.RunFaults.{IsFault}
use Rattle.balise_fields_run.specs.declared.status.Status.{Status}

-- Of what was read the first lines have come, and a last text was written for what comes after them. P says how the run ended
-- there, by these lines, those after them, that text, and whether some of the first were refused.
pub record EndsAfter (Comes : List Line → Text → Bool → Type 0) (had has : Option Text) (P : List Line → List Line → Text → Bool → Type 0) : Type 0 where
  pub read : Text
  pub consumed : Consumes had has read
  pub done : List Line
  pub behind : List Line
  pub cut : lines_of read ≡ done ++ behind
  pub out : Text
  pub refused : Bool
  pub comes : Comes done out refused
  pub last : Text
  pub ends : P done behind last refused

-- what the lines print was written, and then that text
abbrev pub DidLines : (List Line → Text → Bool → Type 0) → (had has old new : Option Text) → (List Line → List Line → Text → Bool → Type 0) → Type 0
DidLines Comes had has old new P = (e : EndsAfter Comes had has P) × Appends old new (e.out ++ e.last)

-- no complete line comes after them, and nothing else was written
abbrev pub NoneComplete : List Line → List Line → Text → Bool → Type 0
NoneComplete done behind last refused = All (λ (line : Line). line.is_ended ≡ false) behind × (last ≡ [])

-- of all that the reader had, the lines before one that doesn't fit have come
pub record LongAfter (Comes : List Line → Text → Bool → Type 0) (had : Option Text) : Type 0 where
  pub input : Text
  pub is_input : IsInput had input
  pub done : List Line
  pub line : Line
  pub behind : List Line
  pub cut : lines_of input ≡ done ++ line ∷ behind
  pub out : Text
  pub refused : Bool
  pub comes : Comes done out refused
  pub long : ¬ Fits (length (joined done)) line

-- what they print was written
abbrev pub StopsAtLong : (List Line → Text → Bool → Type 0) → (had old new : Option Text) → Type 0
StopsAtLong Comes had old new = (e : LongAfter Comes had) × Appends old new e.out

-- the run came to its end
pub record RanToEnd (Comes : List Line → Text → Bool → Type 0) (AtEnd : List Line → List Line → Text → Bool → Type 0) (had has old new : Option Text) (read reads written writes : ℕ) : Type 0 where
  pub lines : DidLines Comes had has old new AtEnd
  pub unread : reads ≡ read
  pub unwritten : writes ≡ written

-- the run came to this fault
pub record RanToFault (Comes : List Line → Text → Bool → Type 0) (OutOfMemory Unwritten : List Line → List Line → Text → Bool → Type 0) (had has old new : Option Text) (read reads written writes : ℕ) (e : RunFault) : Type 0 where
  pub counts : IsFault read reads written writes e
  pub long : e ≡ fault.InputTooLong → StopsAtLong Comes had old new
  pub memory : e ≡ fault.OutOfMemory → DidLines Comes had has old new OutOfMemory
  pub complete : e ≡ fault.ReadFault → DidLines Comes had has old new NoneComplete
  pub full : e ≡ fault.WriteFault → DidLines Comes had has old new Unwritten

-- how a run ended, by what the reader had and has, what was written before and since, and how many calls had failed and have
abbrev pub RanOver : (Comes : List Line → Text → Bool → Type 0) (AtEnd : Status → List Line → List Line → Text → Bool → Type 0) (OutOfMemory Unwritten : List Line → List Line → Text → Bool → Type 0) (had has old new : Option Text) (read reads written writes : ℕ) → Result Status RunFault → Type 0
RanOver Comes AtEnd OutOfMemory Unwritten had has old new read reads written writes result =
    MatchResult result (λ status. RanToEnd Comes (AtEnd status) had has old new read reads written writes) (RanToFault Comes OutOfMemory Unwritten had has old new read reads written writes)
