use Rattle.std.proofs.Common.{◌≡◌, ◌∙◌, ◌+◌, ◌++◌, List, drop, ap, sym, append_assoc}
use Rattle.balise_rules.specs.declared.identity.Id.{Id}
use Rattle.balise_rules.specs.Names.{names_in, names_in_packets}
use Rattle.balise_rules.specs.Plan.{country_of}
use Rattle.balise_plan.proofs.GroupLists.{drop_found}
use Rattle.balise_edits.proofs.naming.names_of_group.Goals as goal

pub loop-i-preserved : goal.loop-i-preserved
loop-i-preserved c =
    let ys = c.args.group.now in
    let y = c.in-Some.telegram.now in
    let rest = names_in (drop (c.loop-i.i + 1) ys) in
    let here : names_in (drop c.loop-i.i ys) ≡ names_in_packets (country_of y) y.packets ++ rest = ap names_in (drop_found ys c.loop-i.i (c.in-Some.field-0-0, y) (sym c.in-Some.ensures)) in
    ap (λ (l : List Id). l ++ rest) c.in_ok-add_telegram.ensures.ok
    ∙ append_assoc c.loop-i.names.items (names_in_packets (country_of y) y.packets) rest
    ∙ ap (λ (l : List Id). c.loop-i.names.items ++ l) (sym here)
    ∙ c.loop-i.invariant
