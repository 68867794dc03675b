use Rattle.std.proofs.Common.{◌≡◌, List, ℕ, ◌++◌, length}
use Rattle.std.specs.Io.KnownBytes.{Appends}
use Rattle.balise_lines.proofs.putting.put.Given as goal

-- what was written, and then the rest, is the text, and no call failed
abbrev pub invariant-writes : goal.invariant-writes
invariant-writes g l =
    (l.writer.failed ≡ l.fn.writer.failed)
    × ((done : List ℕ) × (l.fn.text ≡ done ++ l.rest) × Appends (g.W.Write.contents l.fn.writer.inner) (g.W.Write.contents l.writer.inner) done)

abbrev pub decreases-writes : goal.decreases-writes
decreases-writes g l = length l.rest
