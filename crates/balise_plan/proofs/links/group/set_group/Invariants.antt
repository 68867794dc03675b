use Rattle.std.proofs.Common.{drop}
use Rattle.balise_plan.specs.GroupLinks.{links_in_group}
use Rattle.balise_plan.proofs.naming.Parts.{Setting}
use Rattle.balise_plan.proofs.links.group.set_group.Given as goal

abbrev pub invariant-loop-i : goal.invariant-loop-i
invariant-loop-i l = Setting l.noted (links_in_group l.g l.group) (links_in_group l.g (drop l.i l.group)) l.initial.index l.index
