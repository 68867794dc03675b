use Rattle.std.proofs.Common.{length}
use Rattle.balise_text.specs.Left.{left}
use Rattle.balise_text.proofs.DigitWords.{Continues}
use Rattle.balise_text.proofs.digit_words.read_telegrams.Given as goal

abbrev pub invariant-words : goal.invariant-words
invariant-words l = Continues l.telegrams.items (left l.words) (left l.initial.words)

abbrev pub decreases-words : goal.decreases-words
decreases-words l = length (left l.words)
