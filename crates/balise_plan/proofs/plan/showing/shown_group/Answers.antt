use Rattle.std.proofs.Common.{◌∙◌, ◌+◌, ◌++◌, [], ◌∷◌, ℕ, Bool, List, map, drop, ap, sym, append_assoc, rules}
use Rattle.balise_rules.specs.Telegram.{Telegram, shown}
use Rattle.balise_plan.proofs.naming.GroupLists.{drop_found}
use Rattle.balise_plan.proofs.plan.showing.shown_group.Goals as goal

abbrev bits_of_each : List (ℕ × Telegram) → List (List Bool)
bits_of_each ys = map (λ (t : ℕ × Telegram). shown t.1) ys

pub loop-i-preserved : goal.loop-i-preserved
loop-i-preserved c =
    let ys = c.args.group.now in
    let rest = bits_of_each (drop (c.loop-i.i + 1) ys) in
    let here = ap bits_of_each (drop_found ys c.loop-i.i (c.in-Some.field-0-0, c.in-Some.telegram.now) (sym c.in-Some.ensures)) in
    ap (λ (l : List (List Bool)). l ++ rest) (c.in_ok-push.ensures.items ∙ ap (λ (b : List Bool). c.loop-i.telegrams.items ++ b ∷ []) c.in_ok-bits.ensures.ok)
    ∙ append_assoc c.loop-i.telegrams.items (shown c.in-Some.telegram.now ∷ []) rest
    ∙ ap (λ (l : List (List Bool)). c.loop-i.telegrams.items ++ l) (sym here)
    ∙ c.loop-i.invariant

pub loop-i-init : goal.loop-i-init
loop-i-init c = search rules
