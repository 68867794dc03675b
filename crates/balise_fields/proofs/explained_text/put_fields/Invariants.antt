use Rattle.std.proofs.Common.{drop}
use Rattle.balise_lines.proofs.PartsWritten.{Wrote}
use Rattle.balise_fields.specs.ExplainedTexts.{fields_text}
use Rattle.balise_fields.proofs.explained_text.put_fields.Given as goal

abbrev pub invariant-loop-field : goal.invariant-loop-field
invariant-loop-field g l = Wrote g.W.Write.contents (fields_text l.fields) (fields_text (drop l.field-index l.fields)) l.fn.writer l.writer
