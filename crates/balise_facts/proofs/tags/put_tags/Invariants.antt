use Rattle.std.proofs.Common.{drop, map}
use Rattle.balise_lines.proofs.PartsWritten.{Wrote}
use Rattle.balise_text.specs.Texts.{text_of}
use Rattle.balise_facts.specs.TagTexts.{group_lines, tags_text}
use Rattle.balise_facts.proofs.tags.put_tags.Given as goal

abbrev pub invariant-loop-place : goal.invariant-loop-place
invariant-loop-place g l = Wrote g.W.Write.contents (tags_text l.plan.groups)
    (text_of (map group_lines (drop l.place l.plan.groups))) l.fn.writer l.writer
