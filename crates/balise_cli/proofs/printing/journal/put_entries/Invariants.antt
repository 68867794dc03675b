use Rattle.std.proofs.Common.{drop, map}
use Rattle.balise_cli.specs.Private.{told}
use Rattle.balise_text.specs.Texts.{text_of}
use Rattle.balise_lines.proofs.PartsWritten.{Wrote}
use Rattle.balise_cli.proofs.printing.journal.put_entries.Given as goal

abbrev pub invariant-loop-entry : goal.invariant-loop-entry
invariant-loop-entry g l = Wrote g.W.Write.contents (text_of (map told l.entries)) (text_of (map told (drop l.entry-index l.entries))) l.fn.writer l.writer
