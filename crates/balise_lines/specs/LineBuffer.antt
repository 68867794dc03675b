-- What the line buffer holds, and what it shows.
use Rattle.std.specs.Prelude.{◌≡◌, ◌<◌, ◌≤◌, ℕ, List, [], length, slice_range, Option}
use Rattle.std.specs.Io.KnownBytes.{IsAtEnd}
use Rattle.balise_lines.specs.Lines.{EndsAt, HasNoEnd}
use Rattle.balise_lines.specs.declared.line_buffer.LineBuffer.{LineBuffer}
use Rattle.balise_lines.specs.declared.line_buffer.Look.{Look}
use Rattle.balise_lines.specs.declared.line_buffer.Look.TheVariants.{Line, Last, End, TooLong}

-- the bytes that were read and not yet dropped
abbrev pub held : LineBuffer → List ℕ
held b = slice_range b.bytes b.start b.end

-- the bytes don't show a line yet: none ends in them, and they aren't more than a longest line has
abbrev pub NeedsMore : List ℕ → Type 0
NeedsMore bytes = HasNoEnd bytes × (length bytes ≤ 4096)

-- what stands at the front of the bytes held and what the reader has left
abbrev pub Sees : Look → List ℕ → Option (List ℕ) → Type 0
Sees (Line n) bytes rest = (n ≤ 4096) × EndsAt bytes n
Sees Last bytes rest = (0 < length bytes) × (length bytes ≤ 4096) × HasNoEnd bytes × IsAtEnd rest
Sees End bytes rest = (bytes ≡ []) × IsAtEnd rest
Sees TooLong bytes rest = (length bytes ≡ 4097) × HasNoEnd bytes
