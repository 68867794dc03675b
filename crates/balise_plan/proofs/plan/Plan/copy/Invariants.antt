use Rattle.balise_index.specs.NameIndex.{names_of, tags_of}
use Rattle.balise_plan.proofs.groups.Copied.{Copied}
use Rattle.balise_plan.proofs.plan.Plan.copy.Given as goal

abbrev pub invariant-loop-i : goal.invariant-loop-i
invariant-loop-i l = Copied l.self-inside.groups.entries l.i (tags_of l.index) (names_of l.index) l.groups.entries
