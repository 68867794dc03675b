use Rattle.std.proofs.Common.{◌∙◌, ◌+◌, ◌++◌, [], ◌∷◌, Bool, List, map, drop, ap, sym, append_assoc}
use Rattle.std.proofs.lemmas.List.{map-append}
use Rattle.balise_rules.specs.Plan.{shown_plan}
use Rattle.balise_plan.proofs.naming.GroupLists.{drop_found}
use Rattle.balise_plan.proofs.plan.Plan.shown.Goals as goal

pub loop-i-preserved : goal.loop-i-preserved
loop-i-preserved c =
    let plan = c.self.inside.groups.entries in
    let rest = shown_plan (drop (c.loop-i.i + 1) plan) in
    let old = map (λ g. g.items) c.loop-i.groups.items in
    let here = ap shown_plan (drop_found plan c.loop-i.i (c.in-Some.field-0-0, c.in-Some.group.now) (sym c.in-Some.ensures)) in
    ap (λ (l : List (List (List Bool))). l ++ rest) (ap (map (λ g. g.items)) c.in_ok-push.ensures.items ∙ map-append (λ g. g.items) c.loop-i.groups.items (c.in_ok-telegrams.telegrams ∷ []) ∙ ap (λ (b : List (List Bool)). old ++ b ∷ []) c.in_ok-telegrams.ensures.ok)
    ∙ append_assoc old _ rest
    ∙ ap (λ (l : List (List (List Bool))). old ++ l) (sym here)
    ∙ c.loop-i.invariant
