use Rattle.std.proofs.Common.{rules, ◌≡◌, ◌∙◌, ◌+◌, ◌-◌, ◌++◌, List, drop, get_or, slice_get, Some, true, ap, sym, append_assoc, arith}
use Rattle.std.proofs.lemmas.List.{map-append}
use Rattle.balise_rules.specs.declared.review.Reviewed.{Reviewed}
use Rattle.balise_rules.specs.declared.review.ReviewLine.{ReviewLine}
use Rattle.balise_rules.specs.Review.{distance_of, lines_at}
use Rattle.balise_rules.specs.Tags.{same_id}
use Rattle.balise_rules.specs.declared.identity.Id.{Id}
use Rattle.balise_plan.proofs.GroupLists.{drop_found}
use Rattle.balise_plan.proofs.LinkSteps.{get-some}
use Rattle.balise_review.specs.Reviews.{named_from}
use Rattle.balise_review.proofs.FoundLines.{one_more, named_more}
use Rattle.balise_review.proofs.links.add_named.Goals as goal

pub loop-k-preserved : goal.loop-k-preserved
loop-k-preserved c =
    let fs = c.args.packet.now.fields in
    let i = c.args.id in
    let k = c.loop-k.k in
    let js = c.args.links.now in
    let none : Id = record { country = 0; number = 0 } in
    let j : Id = get_or js k none in
    let here : slice_get js k ≡ Some j = get-some js k none c.loop-k-test.true in
    let same : same_id j i ≡ true = search rules in
    let at : c.in-Ok.next ≡ k + 1 = search rules in
    let before : c.in-Ok.next - 1 ≡ k = omega (arith, at) in
    let found = c.loop-k.found.items in
    let lines : List Reviewed → List ReviewLine = lines_at c.args.own c.args.pig c.args.pkt in
    let a = distance_of fs k in
    let b = distance_of fs (k + 1) in
    one_more c.add_distance-in-loop-k.new.found.items found (lines (a ++ b)) (lines (named_from i fs (k + 1) (drop (k + 1) js))) (lines (named_from i fs k (drop k js))) _
    (c.in_ok-add_distance-2.ensures.ok ∙ ap (λ n. c.add_distance.new.found.items ++ lines (distance_of fs n)) at
    ∙ ap (λ (l : List ReviewLine). l ++ lines b) (c.in_ok-add_distance.ensures.ok ∙ ap (λ n. found ++ lines (distance_of fs n)) before)
    ∙ append_assoc found (lines a) (lines b) ∙ ap (λ (l : List ReviewLine). found ++ l) (sym (map-append _ a b)))
    (ap (λ l. lines (named_from i fs k l)) (drop_found js k j here) ∙ ap lines (named_more i fs k j (drop (k + 1) js) same) ∙ map-append _ (a ++ b) (named_from i fs (k + 1) (drop (k + 1) js)))
    c.loop-k.invariant
