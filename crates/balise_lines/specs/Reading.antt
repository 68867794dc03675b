-- What is left of an input while its lines are read.
use Rattle.std.specs.Prelude.{◌≡◌, ◌+◌, ℕ, Bool, true, false, not, List, [], ◌∷◌, length, take, drop, ⊤, Option, Some, None}
use Rattle.std.specs.Io.KnownBytes.{Consumes, IsAtEnd, Keeps, prepend_known}
use Rattle.balise_lines.specs.declared.lines.Lines.{Lines}
use Rattle.balise_lines.specs.declared.lines.Next.{Next}
use Rattle.balise_lines.specs.declared.lines.Next.TheVariants as next
use Rattle.balise_lines.specs.LineBuffer.{held}
use Rattle.balise_lines.specs.Lines.{Fits, IsLine, Line, lines_of, whole}

-- the bytes of the line that was read last, without its end
abbrev pub line_of : Lines → List ℕ
line_of l = take l.len (held l.buffer)

-- the bytes that were read and are of no line read so far
abbrev pub ahead : Lines → List ℕ
ahead l = drop l.taken (held l.buffer)

-- what is left of the input: those bytes, and then what the reader has
abbrev pub left : Lines → Option (List ℕ) → Option (List ℕ)
left l remaining = prepend_known (ahead l) remaining

-- the place in the input where the next line begins
abbrev pub place_of : Lines → ℕ
place_of l = l.next_place

-- the number of the next line
abbrev pub number_of : Lines → ℕ
number_of l = l.next_number

-- whether the input's end was seen: a last line without an end was read, or no line was left
abbrev pub is_over : Lines → Bool
is_over l = l.over

-- the next line is still the same, and so is what is known of the end
abbrev pub SamePlace : Lines → Lines → Type 0
SamePlace old new = (place_of new ≡ place_of old) × (number_of new ≡ number_of old) × (is_over new ≡ is_over old)

-- where the end was seen nothing is left
abbrev pub OverAtEnd : Lines → Option (List ℕ) → Type 0
OverAtEnd l remaining = is_over l ≡ true → IsAtEnd (left l remaining)

-- the line that fits was the first of what was left, and the reading goes on after it
pub record TookLine (old : Lines) (had : Option (List ℕ)) (line : Line) (new : Lines) (has : Option (List ℕ)) : Type 0 where
  pub is_line : IsLine line
  pub consumed : Consumes (left old had) (left new has) (whole line)
  pub fits : Fits (place_of old) line
  pub placed : place_of new ≡ place_of old + length (whole line)
  pub numbered : number_of new ≡ number_of old + 1
  pub before : is_over old ≡ false
  pub over : is_over new ≡ not line.is_ended

-- nothing was left, and it stays so: the end was seen
pub record TookNone (old : Lines) (had : Option (List ℕ)) (new : Lines) (has : Option (List ℕ)) : Type 0 where
  pub at_end : IsAtEnd (left old had)
  pub kept : Keeps (left old had) (left new has)
  pub placed : place_of new ≡ place_of old
  pub numbered : number_of new ≡ number_of old
  pub over : is_over new ≡ true
  pub none : line_of new ≡ []

-- what the reading came to
abbrev pub Took : Next → Lines → Option (List ℕ) → Lines → Option (List ℕ) → Type 0
Took (next.Line is_ended) old had new has = TookLine old had (record { bytes = line_of new; is_ended = is_ended }) new has
Took next.End old had new has = TookNone old had new has

-- where the bytes are known, these are they
abbrev pub IsInput : Option (List ℕ) → List ℕ → Type 0
IsInput None input = ⊤
IsInput (Some bytes) input = input ≡ bytes

-- a line that doesn't fit stands first in what is left
pub record LongNext (left : Option (List ℕ)) (place : ℕ) : Type 0 where
  pub input : List ℕ
  pub is_input : IsInput left input
  pub line : Line
  pub lines : List Line
  pub first : lines_of input ≡ line ∷ lines
  pub long : ¬ Fits place line
