use Rattle.std.proofs.Common.{drop, map}
use Rattle.balise_edits.specs.Places.{path_of}
use Rattle.balise_lines.proofs.PartsWritten.{Wrote}
use Rattle.balise_text.specs.Texts.{text_of}
use Rattle.balise_facts.specs.FactTexts.{place_line}
use Rattle.balise_facts.proofs.places.put_places.Given as goal

abbrev pub invariant-loop-place : goal.invariant-loop-place
invariant-loop-place g l = Wrote g.W.Write.contents (text_of (map (place_line l.name) (map path_of l.places)))
    (text_of (map (place_line l.name) (map path_of (drop l.place-index l.places)))) l.fn.writer l.writer
