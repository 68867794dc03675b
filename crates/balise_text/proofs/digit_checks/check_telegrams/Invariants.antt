use Rattle.std.proofs.Common.{◌≡◌, length}
use Rattle.balise_text.specs.Checks.{checked}
use Rattle.balise_text.specs.DigitWords.{telegrams_in}
use Rattle.balise_text.specs.Left.{left}
use Rattle.balise_text.proofs.digit_checks.check_telegrams.Given as goal

abbrev pub invariant-words : goal.invariant-words
invariant-words l = checked (telegrams_in (left l.words)) ≡ checked (telegrams_in (left l.initial.words))

abbrev pub decreases-words : goal.decreases-words
decreases-words l = length (left l.words)
