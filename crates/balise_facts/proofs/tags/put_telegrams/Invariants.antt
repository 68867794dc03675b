use Rattle.std.proofs.Common.{drop}
use Rattle.balise_lines.proofs.PartsWritten.{Wrote}
use Rattle.balise_facts.specs.TagTexts.{telegram_lines}
use Rattle.balise_facts.proofs.tags.put_telegrams.Given as goal

abbrev pub invariant-loop-pig : goal.invariant-loop-pig
invariant-loop-pig g l = Wrote g.W.Write.contents (telegram_lines l.id 0 l.group)
    (telegram_lines l.id l.pig (drop l.pig l.group)) l.fn.writer l.writer
