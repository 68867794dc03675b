use Rattle.std.proofs.Common.{◌≡◌, ◌≤◌, ◌-◌, ◌*◌, length, take}
use Rattle.balise_rules.specs.Bits.{part}
use Rattle.balise_bits.specs.Bytes.{flat}
use Rattle.balise_bits.proofs.window.fill_shifted.Given as goal

abbrev pub invariant-words : goal.invariant-words
invariant-words l = (flat (take l.i l.out) ≡ part l.shift (8 * l.i) (flat l.from)) × (l.i ≤ length l.out)

abbrev pub decreases-words : goal.decreases-words
decreases-words l = length l.out - l.i

abbrev pub invariant-bytes : goal.invariant-bytes
invariant-bytes l = (flat (take l.i l.out) ≡ part l.shift (8 * l.i) (flat l.from)) × (l.i ≤ length l.out)

abbrev pub decreases-bytes : goal.decreases-bytes
decreases-bytes l = length l.out - l.i
