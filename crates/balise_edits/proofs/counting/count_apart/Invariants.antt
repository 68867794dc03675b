use Rattle.std.proofs.Common.{◌≡◌, ◌≤◌, ◌+◌, ◌-◌, drop, length}
use Rattle.std.specs.List.{prefix_len}
use Rattle.balise_edits.specs.Homes.{is_far}
use Rattle.balise_edits.proofs.counting.count_apart.Given as goal

abbrev pub invariant-whole : goal.invariant-whole
invariant-whole l = (l.count ≤ length l.numbers) × (l.count + prefix_len (is_far l.group l.limit) (drop l.count l.numbers) ≡ prefix_len (is_far l.group l.limit) l.numbers)

abbrev pub decreases-whole : goal.decreases-whole
decreases-whole l = length l.numbers - l.count

abbrev pub invariant-numbers : goal.invariant-numbers
invariant-numbers l = (l.count ≤ length l.numbers) × (l.count + prefix_len (is_far l.group l.limit) (drop l.count l.numbers) ≡ prefix_len (is_far l.group l.limit) l.numbers)

abbrev pub decreases-numbers : goal.decreases-numbers
decreases-numbers l = length l.numbers - l.count
