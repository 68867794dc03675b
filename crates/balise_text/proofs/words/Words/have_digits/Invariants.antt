use Rattle.std.proofs.Common.{◌≡◌, length}
use Rattle.balise_text.specs.Left.{left}
use Rattle.balise_text.specs.DigitWords.{have_digits}
use Rattle.balise_text.proofs.words.Words.have_digits.Given as goal

abbrev pub invariant-words : goal.invariant-words
invariant-words l = have_digits (left l.words) ≡ have_digits (left l.fn.self)

abbrev pub decreases-words : goal.decreases-words
decreases-words l = length (left l.words)
