use Rattle.std.proofs.Common.{◌≡◌, ◌++◌, map, drop}
use Rattle.balise_rules.specs.Plan.{shown_plan}
use Rattle.balise_plan.proofs.plan.Plan.shown.Given as goal

abbrev pub invariant-loop-i : goal.invariant-loop-i
invariant-loop-i l = map (λ g. g.items) l.groups.items ++ shown_plan (drop l.i l.self-inside.groups.entries) ≡ shown_plan l.self-inside.groups.entries
