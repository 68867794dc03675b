use Rattle.std.proofs.Common.{drop, map}
use Rattle.balise_text.specs.Texts.{behind_marks}
use Rattle.balise_text.specs.Printing.{word_text}
use Rattle.balise_lines.proofs.PartsWritten.{Wrote}
use Rattle.balise_text.proofs.printing.put_each.Given as goal

abbrev pub invariant-loop-word : goal.invariant-loop-word
invariant-loop-word g l = Wrote g.W.Write.contents (behind_marks 32 (map word_text l.words)) (behind_marks 32 (map word_text (drop l.word-index l.words))) l.fn.writer l.writer
