-- What a run from digits to fields prints for the lines of its input, and how it ends.
use Rattle.std.specs.Prelude.{◌≡◌, ◌+◌, ◌≤◌, ◌||◌, ℕ, Bool, false, List, [], ◌∷◌, ◌++◌, length, Option, Result}
use Rattle.std.specs.Io.KnownBytes.{IsAtEnd}
use Rattle.balise_lines.specs.Laws.{joined}
use Rattle.balise_lines.specs.Lines.{Fits, Line, whole}
use Rattle.balise_lines.specs.Writing.{IsPartOf}
use Rattle.balise_text.specs.Texts.{Text}
use Rattle.balise_fields.specs.declared.explained.Explained.{Explained}
use Rattle.balise_fields.specs.Explaining.{IsExplained, is_refused}
use Rattle.balise_fields.specs.ExplainedTexts.{explained_text}
use Rattle.balise_text.specs.declared.run_fault.RunFault.{RunFault}
use Rattle.balise_fields_run.specs.declared.status.Status.{Status}
use Rattle.balise_fields_run.specs.Runs.{RanOver}
use Rattle.balise_fields_run.specs.Statuses.{status_of}

-- Lines of digits, the first of them at this place of the input, each explained by itself: what is printed for all of them, and whether some are refused.
abbrev pub AreExplained : ℕ → List Line → Text → Bool → Type 0
AreExplained place [] out refused = (out ≡ []) × (refused ≡ false)
AreExplained place (line ∷ lines) out refused =
    Fits place line × ((x : Explained) × ((more : Text) × ((later : Bool) × (IsExplained line.bytes x × (out ≡ explained_text x ++ more) × (refused ≡ (is_refused x || later)) × AreExplained (place + length (whole line)) lines more later))))

-- the input ended, and nothing else was written
abbrev pub AtEnd : Option Text → Status → List Line → List Line → Text → Bool → Type 0
AtEnd has status done behind last refused = IsAtEnd has × (behind ≡ []) × (last ≡ []) × (status ≡ status_of refused)

-- Memory ran out for the next line, and nothing of it was written. After it at most 4,097 bytes were read.
abbrev pub RunsOutOfMemory : List Line → List Line → Text → Bool → Type 0
RunsOutOfMemory done [] last refused = ⊥
RunsOutOfMemory done (line ∷ behind) last refused = (length (joined behind) ≤ 4097) × (last ≡ [])

-- The writer failed in what the next line prints, and of that a beginning was written, and not all. After that line at most 4,097 bytes were read.
abbrev pub FailsToWrite : List Line → List Line → Text → Bool → Type 0
FailsToWrite done [] last refused = ⊥
FailsToWrite done (line ∷ behind) last refused = (length (joined behind) ≤ 4097) × ((x : Explained) × (IsExplained line.bytes x × IsPartOf last (explained_text x)))

-- how a run ended, by what the reader had and has, what was written before and since, and how many calls had failed and have
abbrev pub Ran : (had has old new : Option Text) → (read reads written writes : ℕ) → Result Status RunFault → Type 0
Ran had has old new = RanOver (AreExplained 0) (AtEnd has) RunsOutOfMemory FailsToWrite had has old new
