-- What a run from fields to digits prints for the items of its input, and how it ends.
use Rattle.std.specs.Prelude.{◌≡◌, ◌+◌, ◌≤◌, ◌||◌, ℕ, Bool, List, [], ◌∷◌, length, Option, None, Result}
use Rattle.std.specs.Io.KnownBytes.{IsAtEnd}
use Rattle.balise_lines.specs.Laws.{joined}
use Rattle.balise_lines.specs.Lines.{Fits, Line, whole}
use Rattle.balise_lines.specs.Writing.{IsPartOf}
use Rattle.balise_text.specs.Texts.{Text}
use Rattle.balise_text.specs.declared.run_fault.RunFault.{RunFault}
use Rattle.balise_fields_run.specs.declared.status.Status.{Status}
use Rattle.balise_fields_run.specs.ItemLines.{closed_bad, closed_text, line_text, lines_bad, lines_text, next_of, open_of}
use Rattle.balise_fields_run.specs.Runs.{RanOver}
use Rattle.balise_fields_run.specs.Statuses.{status_of}

-- each line fits, the first of them at this place of the input
abbrev pub FitAll : ℕ → List Line → Type 0
FitAll place [] = Unit {0}
FitAll place (line ∷ lines) = Fits place line × FitAll (place + length (whole line)) lines

-- the first lines of an input: what is printed for them, and whether some of the items that they end are refused
abbrev pub AreItems : List Line → Text → Bool → Type 0
AreItems lines out refused = FitAll 0 lines × (out ≡ lines_text 1 None lines) × (refused ≡ lines_bad 1 None lines)

-- the input ended, and what the last item prints was written
abbrev pub ItemsAtEnd : Option Text → Status → List Line → List Line → Text → Bool → Type 0
ItemsAtEnd has status done behind last refused =
    IsAtEnd has × (behind ≡ []) × (last ≡ closed_text (next_of done) (open_of done)) × (status ≡ status_of (refused || closed_bad (next_of done) (open_of done)))

-- Memory ran out for the next line, and after it at most 4,097 bytes were read; or at the input's end. Nothing else was
-- written.
abbrev pub ItemsOutOfMemory : Option Text → List Line → List Line → Text → Bool → Type 0
ItemsOutOfMemory has done [] last refused = IsAtEnd has × (last ≡ [])
ItemsOutOfMemory has done (line ∷ behind) last refused = (length (joined behind) ≤ 4097) × (last ≡ [])

-- The writer failed in what the next line prints, and after it at most 4,097 bytes were read; or in what the last item
-- prints at the input's end. Of that a beginning was written, and not all.
abbrev pub ItemsUnwritten : Option Text → List Line → List Line → Text → Bool → Type 0
ItemsUnwritten has done [] last refused = IsAtEnd has × IsPartOf last (closed_text (next_of done) (open_of done))
ItemsUnwritten has done (line ∷ behind) last refused = (length (joined behind) ≤ 4097) × IsPartOf last (line_text (next_of done) line.bytes (open_of done))

-- how a run ended, by what the reader had and has, what was written before and since, and how many calls had failed and have
abbrev pub Spelled : (had has old new : Option Text) → (read reads written writes : ℕ) → Result Status RunFault → Type 0
Spelled had has old new = RanOver AreItems (ItemsAtEnd has) (ItemsOutOfMemory has) (ItemsUnwritten has) had has old new
