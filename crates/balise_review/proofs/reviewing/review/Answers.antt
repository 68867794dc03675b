use Rattle.std.proofs.Common.{rules, ◌≡◌, ◌∙◌, ◌≤◌, ◌<◌, ◌++◌, [], cond, flat_map, length, reverse, Some, ap, sym}
use Rattle.std.specs.Prelude.{not}
use Rattle.std.proofs.lemmas.Bool.{ne_eqb}
use Rattle.balise_rules.specs.Names.{is_real}
use Rattle.balise_rules.specs.Plan.{identity_of, reserved}
use Rattle.balise_rules.specs.Tagged.{find}
use Rattle.balise_rules.specs.Tags.{same_tag}
use Rattle.balise_rules.proofs.Found.{group_sound}
use Rattle.balise_review.specs.Reviews.{group_links, telegram_lines}
use Rattle.balise_review.proofs.TurnedLines.{few, many, review_turned}
use Rattle.balise_review.proofs.reviewing.review.Goals as goal

pub returns-then-count-le1-clause-ok : goal.returns-then-count-le1-clause-ok
returns-then-count-le1-clause-ok c =
    let plan = c.args.plan.now.groups in
    let ys = c.in-Some.group.now in
    let stands : find same_tag c.args.g plan ≡ Some ys = sym c.in-Some.ensures in
    let all = telegram_lines (identity_of ys) 0 (reverse ys) ++ flat_map (group_links c.args.g (identity_of ys)) plan in
    let small : length ys ≤ 1 = search rules in
    let none : c.new-found.result.items ≡ [] = search rules in
    none ∙ sym (review_turned c.args.g plan ys c.count-count.ensures.sound stands ∙ ap (λ b. cond b [] all) (few (length ys) small))

pub add_links-requires : goal.add_links-requires
add_links-requires c =
    let plan = c.args.plan.now.groups in
    let ys = c.in-Some.group.now in
    let stands : find same_tag c.args.g plan ≡ Some ys = sym c.in-Some.ensures in
    let s = group_sound plan c.count-count.ensures.sound c.args.g ys stands in
    record {
      sound = c.count-count.ensures.sound;
      real = ap is_real c.identity.ensures ∙ ap not (ne_eqb (identity_of ys).number reserved s.number);
    }

pub returns-clause-ok : goal.returns-clause-ok
returns-clause-ok c =
    let plan = c.args.plan.now.groups in
    let ys = c.in-Some.group.now in
    let stands : find same_tag c.args.g plan ≡ Some ys = sym c.in-Some.ensures in
    let own = identity_of ys in
    let first = telegram_lines own 0 (reverse ys) in
    let large : 1 < length ys = search rules in
    let none : c.new-found.result.items ≡ [] = search rules in
    c.in_ok-add_links.ensures.ok
    ∙ ap (λ i. c.add_distances.new.found.items ++ flat_map (group_links c.args.g i) plan) c.identity.ensures
    ∙ ap (λ l. l ++ flat_map (group_links c.args.g own) plan) (c.in_ok-add_distances.ensures.ok ∙ ap (λ l. l ++ first) none)
    ∙ sym (review_turned c.args.g plan ys c.count-count.ensures.sound stands ∙ ap (λ b. cond b [] (first ++ flat_map (group_links c.args.g own) plan)) (many (length ys) large))
