use Rattle.std.proofs.Common.{◌≤◌, length, take, arith}
use Rattle.balise_lines.proofs.HeldBytes.{grown, Keeps-read}
use Rattle.balise_lines.proofs.line_buffer.LineBuffer.read_from.Goals as goal

pub returns-in-Ok-clause-bytes : goal.returns-in-Ok-clause-bytes
returns-in-Ok-clause-bytes g c =
    let moved = c.move_to_front.new.self in
    let within : moved.end ≤ length moved.bytes = omega arith in
    let count = c.in-Ok.count in
    Keeps-read _ _ _ _ _ (take count c.read.new.buf) c.in-Ok.ensures.bytes.0 c.move_to_front.ensures.held
    (grown moved.bytes c.read.new.buf moved.start moved.end _ count moved.ordered within c.in-Ok.ensures.bound.0)
