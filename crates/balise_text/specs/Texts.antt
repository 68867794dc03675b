-- Texts put together: one after another, as words of a line, as a line.
use Rattle.std.specs.Prelude.{ℕ, List, [], ◌∷◌, ◌++◌, codes}

-- the bytes of a text
abbrev pub Text : Type 0
Text = List ℕ

-- texts one after another
abbrev pub text_of : List Text → Text
text_of [] = []
text_of (t ∷ ts) = t ++ text_of ts

-- words, a separator before each
abbrev pub behind_marks : ℕ → List Text → Text
behind_marks mark [] = []
behind_marks mark (w ∷ ws) = mark ∷ (w ++ behind_marks mark ws)

-- words with a separator between them
abbrev pub with_marks : ℕ → List Text → Text
with_marks mark [] = []
with_marks mark (w ∷ ws) = w ++ behind_marks mark ws

-- the words of a line stand apart by one space, 32
abbrev pub line_of : List Text → Text
line_of ws = with_marks 32 ws

-- the same with the line's end
abbrev pub whole_line : List Text → Text
whole_line ws = line_of ws ++ codes "\n"
