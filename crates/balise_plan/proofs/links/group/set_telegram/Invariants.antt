use Rattle.std.proofs.Common.{length}
use Rattle.balise_rules.specs.Plan.{country_of}
use Rattle.balise_plan.specs.GroupLinks.{links_in_packets}
use Rattle.balise_plan.proofs.naming.Parts.{Setting}
use Rattle.balise_plan.proofs.links.group.set_telegram.Given as goal

abbrev pub invariant-packets : goal.invariant-packets
invariant-packets l = Setting l.noted (links_in_packets l.g l.t (country_of l.telegram) l.telegram.packets) (links_in_packets l.g l.t (country_of l.telegram) l.packets) l.initial.index l.index

abbrev pub decreases-packets : goal.decreases-packets
decreases-packets l = length l.packets
