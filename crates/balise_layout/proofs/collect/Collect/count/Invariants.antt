use Rattle.std.proofs.Common.{◌≡◌, drop}
use Rattle.balise_rules.specs.Forms.{count_of}
use Rattle.balise_layout.specs.Collected.{all_keyed}
use Rattle.balise_layout.proofs.collect.Collect.count.Given as goal

abbrev pub invariant-loop-i : goal.invariant-loop-i
invariant-loop-i l = count_of l.var (all_keyed (drop l.i l.self-inside.fields.items)) ≡ 0
