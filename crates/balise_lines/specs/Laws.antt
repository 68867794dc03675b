-- The lines of an input are its lines, and no others.
use Rattle.std.specs.Prelude.{◌≡◌, ℕ, false, List, [], ◌∷◌, ◌++◌, ⊤}
use Rattle.balise_lines.specs.Lines.{IsLine, Line, lines_of, whole}

-- the lines, each with its end, one after another
abbrev pub joined : List Line → List ℕ
joined [] = []
joined (line ∷ lines) = whole line ++ joined lines

-- each is a line, and only the last may lack its end
abbrev pub AreLines : List Line → Type 0
AreLines [] = ⊤
AreLines (line ∷ lines) = IsLine line × ((line.is_ended ≡ false → lines ≡ []) × AreLines lines)

-- put together they are the input
abbrev pub LinesMakeInput : Type 0
LinesMakeInput = (input : List ℕ) → (joined (lines_of input) ≡ input) × AreLines (lines_of input)

-- whatever else is put together from lines to the input are the same lines
abbrev pub OneCut : Type 0
OneCut = (lines : List Line) → AreLines lines → lines_of (joined lines) ≡ lines
