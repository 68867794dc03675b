use Rattle.std.proofs.Common.{◌≡◌}
use Rattle.balise_rules.specs.Tagged.{Distinct}
use Rattle.balise_rules.specs.Tags.{same_tag}
use Rattle.balise_plan.specs.Walks.{change_all}
use Rattle.balise_plan.proofs.links.walk.change_each.Given as goal

abbrev pub invariant-loop-place : goal.invariant-loop-place
invariant-loop-place l = record {
  rest : change_all l.fn.change l.place-iterator l.groups.entries ≡ change_all l.fn.change l.links.keys l.initial.groups.entries;
  tags : Distinct same_tag l.groups.entries;
}
