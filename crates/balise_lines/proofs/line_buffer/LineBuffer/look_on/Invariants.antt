use Rattle.std.proofs.Common.{◌≡◌, ◌⊎◌, ◌≤◌, ◌-◌, length, take}
use Rattle.std.specs.Io.KnownBytes.{Keeps, prepend_known}
use Rattle.balise_lines.specs.LineBuffer.{held, NeedsMore}
use Rattle.balise_lines.specs.Lines.{HasNoEnd}
use Rattle.balise_lines.proofs.line_buffer.LineBuffer.look_on.Given as goal

abbrev pub invariant-reads : goal.invariant-reads
invariant-reads g l =
    Keeps (prepend_known (held l.fn.self) (g.R.Read.remaining l.fn.reader.inner)) (prepend_known (held l.self) (g.R.Read.remaining l.reader.inner))
    × (l.reader.failed ≡ l.fn.reader.failed) × (l.searched ≤ length (held l.self)) × HasNoEnd (take l.searched (held l.self))
    × (((l.reader ≡ l.fn.reader) × (held l.self ≡ held l.fn.self)) ⊎ NeedsMore (held l.fn.self))

abbrev pub decreases-reads : goal.decreases-reads
decreases-reads g l = 4097 - length (held l.self)
