use Rattle.std.proofs.Common.{drop, map}
use Rattle.balise_rules.specs.Digits.{hex_of}
use Rattle.balise_text.specs.Texts.{behind_marks}
use Rattle.balise_lines.proofs.PartsWritten.{Wrote}
use Rattle.balise_text.proofs.journal_text.put_telegrams.Given as goal

abbrev pub invariant-loop-bits : goal.invariant-loop-bits
invariant-loop-bits g l = Wrote g.W.Write.contents (behind_marks 32 (map hex_of l.telegrams)) (behind_marks 32 (map hex_of (drop l.bits-index l.telegrams))) l.fn.writer l.writer
