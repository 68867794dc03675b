use Rattle.std.proofs.Common.{drop}
use Rattle.balise_plan.specs.GroupLinks.{links_from}
use Rattle.balise_plan.proofs.naming.Parts.{Setting}
use Rattle.balise_plan.proofs.links.packet.set_elements.Given as goal

abbrev pub invariant-loop-k : goal.invariant-loop-k
invariant-loop-k l = Setting l.noted (links_from l.place.group l.place.telegram l.place.packet 0 l.identities) (links_from l.place.group l.place.telegram l.place.packet l.k (drop l.k l.identities)) l.initial.index l.index
