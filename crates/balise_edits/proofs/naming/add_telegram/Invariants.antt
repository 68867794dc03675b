use Rattle.std.proofs.Common.{◌≡◌, ◌++◌, length}
use Rattle.balise_rules.specs.Names.{names_in_packets}
use Rattle.balise_rules.specs.Plan.{country_of}
use Rattle.balise_edits.proofs.naming.add_telegram.Given as goal

abbrev pub invariant-packets : goal.invariant-packets
invariant-packets l = l.names.items ++ names_in_packets (country_of l.telegram) l.packets ≡ l.initial.names.items ++ names_in_packets (country_of l.telegram) l.telegram.packets

abbrev pub decreases-packets : goal.decreases-packets
decreases-packets l = length l.packets
