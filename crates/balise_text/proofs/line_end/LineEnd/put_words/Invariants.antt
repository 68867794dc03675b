use Rattle.std.proofs.Common.{◌≡◌, ◌≤◌, ◌++◌, drop, length, map}
use Rattle.balise_text.specs.LineEnds.{ending}
use Rattle.balise_text.specs.Printing.{word_text}
use Rattle.balise_text.specs.Texts.{behind_marks}
use Rattle.balise_text.proofs.line_end.LineEnd.put_words.Given as goal

abbrev pub invariant-words : goal.invariant-words
invariant-words l = (l.left ≤ length l.words) × (ending l.self ≡ behind_marks 32 (map word_text (drop l.left l.words)) ++ ending l.initial.self)

abbrev pub decreases-words : goal.decreases-words
decreases-words l = l.left
