use Rattle.std.proofs.Common.{◌≡◌, ◌++◌, drop}
use Rattle.balise_rules.specs.Names.{names_in}
use Rattle.balise_edits.proofs.naming.names_of_group.Given as goal

abbrev pub invariant-loop-i : goal.invariant-loop-i
invariant-loop-i l = l.names.items ++ names_in (drop l.i l.group) ≡ names_in l.group
