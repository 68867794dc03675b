use Rattle.std.proofs.Common.{drop, map}
use Rattle.balise_lines.proofs.PartsWritten.{Wrote}
use Rattle.balise_rules.specs.Session.{entries}
use Rattle.balise_text.specs.Texts.{text_of}
use Rattle.balise_facts.specs.FactTexts.{edit_text, edits_text}
use Rattle.balise_facts.proofs.edits.put_edits.Given as goal

abbrev pub invariant-loop-entry : goal.invariant-loop-entry
invariant-loop-entry g l =
    let es = entries l.session.state.base l.session.state.standing in
    Wrote g.W.Write.contents (edits_text es) (text_of (map (edit_text es)
    (drop l.entry-index l.standing))) l.fn.writer l.writer
