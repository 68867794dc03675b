use Rattle.std.proofs.Common.{drop, map}
use Rattle.balise_lines.proofs.PartsWritten.{Wrote}
use Rattle.balise_text.specs.Texts.{text_of}
use Rattle.balise_facts.specs.FactTexts.{serial_line}
use Rattle.balise_facts.proofs.edits.put_serials.Given as goal

abbrev pub invariant-loop-serial : goal.invariant-loop-serial
invariant-loop-serial g l = Wrote g.W.Write.contents (text_of (map (serial_line l.name) l.serials))
    (text_of (map (serial_line l.name) (drop l.serial-index l.serials))) l.fn.writer l.writer
