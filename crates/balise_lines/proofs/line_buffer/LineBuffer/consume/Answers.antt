use Rattle.std.proofs.Common.{ℕ, arith}
use Rattle.std.proofs.lemmas.List.{length-take, length-drop}
use Rattle.balise_lines.proofs.HeldBytes.{stepped_past}
use Rattle.balise_lines.proofs.line_buffer.LineBuffer.consume.Goals as goal

pub returns : goal.returns
returns c =
    let buffer = c.args.self.now in
    stepped_past buffer.bytes buffer.start buffer.end c.args.count (omega (arith, length-take {A = ℕ}, length-drop {A = ℕ}))
