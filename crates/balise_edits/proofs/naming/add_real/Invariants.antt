use Rattle.std.proofs.Common.{◌≡◌, ◌++◌, drop, filter}
use Rattle.balise_rules.specs.Names.{is_real}
use Rattle.balise_edits.proofs.naming.add_real.Given as goal

abbrev pub invariant-loop-k : goal.invariant-loop-k
invariant-loop-k l = l.names.items ++ filter is_real (drop l.k l.identities) ≡ l.initial.names.items ++ filter is_real l.identities
