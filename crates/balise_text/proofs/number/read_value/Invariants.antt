use Rattle.std.proofs.Common.{◌≡◌, ◌≤◌, ◌+◌, drop, length}
use Rattle.balise_text.specs.Left.{up_to}
use Rattle.balise_text.specs.Words.{value_from, most_number}
use Rattle.balise_text.proofs.number.read_value.Given as goal

abbrev pub invariant-loop-byte : goal.invariant-loop-byte
invariant-loop-byte l =
    (l.value ≤ most_number)
    × (value_from l.value (up_to l.mark (drop l.byte-index l.text)) ≡ value_from 0 (up_to l.mark l.text))
    × (l.len ≡ l.byte-index)
    × (l.len + length (up_to l.mark (drop l.byte-index l.text)) ≡ length (up_to l.mark l.text))
