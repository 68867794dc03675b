use Rattle.std.proofs.Common.{drop, map}
use Rattle.balise_text.specs.Texts.{text_of}
use Rattle.balise_lines.proofs.PartsWritten.{Wrote}
use Rattle.balise_text.proofs.printing.put_texts.Given as goal

abbrev pub invariant-loop-text : goal.invariant-loop-text
invariant-loop-text g l = Wrote g.W.Write.contents (text_of (map (λ t. t.now) l.texts)) (text_of (map (λ t. t.now) (drop l.text-index l.texts))) l.fn.writer l.writer
