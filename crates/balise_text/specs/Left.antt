-- What is left of the parts of a text.
use Rattle.std.specs.Prelude.{◌≡◌, ◌==◌, ℕ, cond, if◌then◌else◌, List, [], ◌∷◌, Option, Some, None}
use Rattle.balise_text.specs.declared.words.Words.{Words}
use Rattle.balise_text.specs.Words.{Word, taken, parts_of}

abbrev pub left : Words → List Word
left w = cond w.over [] (parts_of w.mark w.text.now)

-- the bytes before a mark, all where there is none
abbrev pub up_to : ℕ → Word → Word
up_to mark [] = []
up_to mark (b ∷ bs) = if b == mark then [] else b ∷ up_to mark bs

-- the next part was taken as what it says
abbrev pub TakesPart : {A : Type 0} → (Word → Option A) → List Word → Option (A × Words) → Type 0
TakesPart says old None = taken says old ≡ None
TakesPart says old (Some p) = taken says old ≡ Some (p.0, left p.1)
