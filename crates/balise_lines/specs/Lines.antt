-- The lines of an input, and which of them fit.
use Rattle.std.specs.Prelude.{◌≡◌, ◌≢◌, ◌==◌, ◌+◌, ◌<◌, ◌≤◌, ℕ, suc, Bool, true, false, List, [], ◌∷◌, ◌++◌, length, take, drop, All, if◌then◌else◌}

-- a line of an input: its bytes, and whether a line feed ends it, which the last line may lack
pub record Line : Type 0 where
  pub bytes : List ℕ
  pub is_ended : Bool

-- the line of these bytes that a line feed ends
abbrev pub ended : List ℕ → Line
ended bytes = record { bytes = bytes; is_ended = true }

-- the last line of these bytes, without an end
abbrev pub unended : List ℕ → Line
unended bytes = record { bytes = bytes; is_ended = false }

-- the byte stands before the first line, as a part of it
abbrev pub onto_first : ℕ → List Line → List Line
onto_first b [] = unended (b ∷ []) ∷ []
onto_first b (line ∷ lines) = record { bytes = b ∷ line.bytes; is_ended = line.is_ended } ∷ lines

-- the lines of an input, in order
abbrev pub lines_of : List ℕ → List Line
lines_of [] = []
lines_of (b ∷ input) = if b == 10 then ended [] ∷ lines_of input else onto_first b (lines_of input)

-- a line feed, or nothing
abbrev pub end_of : Bool → List ℕ
end_of true = 10 ∷ []
end_of false = []

-- the line as it stands in the input, its end with it
abbrev pub whole : Line → List ℕ
whole line = line.bytes ++ end_of line.is_ended

-- A line that begins at this place of the input is at most 4,096 bytes long, and the input up to the line's end, the end with it, at most 67,108,864.
abbrev pub Fits : ℕ → Line → Type 0
Fits place line = (length line.bytes ≤ 4096) × (place + length (whole line) ≤ 67108864)

-- no line feed is among the bytes
abbrev pub HasNoEnd : List ℕ → Type 0
HasNoEnd bytes = All (λ b. b ≢ 10) bytes

-- the first line feed among the bytes stands at this place
abbrev pub EndsAt : List ℕ → ℕ → Type 0
EndsAt bytes n = (n < length bytes) × (bytes ≡ take n bytes ++ 10 ∷ drop (suc n) bytes) × HasNoEnd (take n bytes)

-- these are the bytes of one line: no line feed is among them, and where no line feed ends them there are some
abbrev pub IsLine : Line → Type 0
IsLine line = HasNoEnd line.bytes × (line.is_ended ≡ false → 0 < length line.bytes)
