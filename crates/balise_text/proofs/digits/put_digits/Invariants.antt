use Rattle.std.proofs.Common.{◌*◌, drop}
use Rattle.balise_rules.specs.Digits.{digits_in, hex_of}
use Rattle.balise_text.specs.Printing.{padded}
use Rattle.balise_lines.proofs.PartsWritten.{Wrote}
use Rattle.balise_text.proofs.digits.put_digits.Given as goal

abbrev pub invariant-loop-place : goal.invariant-loop-place
invariant-loop-place g l = Wrote g.W.Write.contents (hex_of l.bits) (digits_in (drop (8 * l.place) (padded l.bits))) l.fn.writer l.writer
