use Rattle.std.proofs.Common.{◌*◌, drop}
use Rattle.balise_rules.specs.Digits.{digits_in}
use Rattle.balise_text.specs.Printing.{filled, fours_of}
use Rattle.balise_lines.proofs.PartsWritten.{Wrote}
use Rattle.balise_text.proofs.digits.put_fours.Given as goal

abbrev pub invariant-loop-place : goal.invariant-loop-place
invariant-loop-place g l = Wrote g.W.Write.contents (fours_of l.bits) (digits_in (drop (4 * l.place) (filled l.bits))) l.fn.writer l.writer
