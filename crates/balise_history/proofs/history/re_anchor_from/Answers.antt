use Rattle.std.proofs.Common.{◌≡◌, ◌++◌, ◌∙◌, length, take, drop, sym, ap, arith}
use Rattle.std.proofs.lemmas.Bool.Decides.{nat_tests}
use Rattle.std.proofs.lemmas.List.{nil_from_length, take-append-drop}
use Rattle.balise_edits.specs.Anchors.{new_anchor}
use Rattle.balise_history.specs.Lists.{entries_re_anchored}
use Rattle.balise_history.proofs.Hanging.{hung-none}
use Rattle.balise_history.proofs.history.re_anchor_from.Goals as goal

pub returns-then-is_empty-clause-items : goal.returns-then-is_empty-clause-items
returns-then-is_empty-clause-items c =
    let xs = c.args.standing.now.items in
    let a = new_anchor c.args.on c.args.entry.now.0 in
    let n : length c.args.serials.now ≡ 0 = grind (arith, nat_tests) in
    sym (take-append-drop c.args.place xs) ∙ ap (λ es. take c.args.place xs ++ es) (sym (ap (λ ns. entries_re_anchored a ns (drop c.args.place xs)) (nil_from_length c.args.serials.now n) ∙ hung-none a (drop c.args.place xs)))
