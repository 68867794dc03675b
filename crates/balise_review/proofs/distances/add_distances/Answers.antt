use Rattle.std.proofs.Common.{rules, ◌≡◌, ◌∙◌, ◌+◌, ◌++◌, ◌<◌, drop, reverse, ap}
use Rattle.balise_rules.specs.Plan.{identity_of}
use Rattle.balise_rules.specs.Telegram.{version_of}
use Rattle.balise_review.specs.Reviews.{packet_lines, telegram_lines}
use Rattle.balise_review.proofs.FoundLines.{one_more, over_found, at_reverse}
use Rattle.balise_review.proofs.distances.add_distances.Goals as goal

pub loop-pig-preserved : goal.loop-pig-preserved
loop-pig-preserved c =
    let ys = c.args.group.now in
    let y = c.in-Some.telegram.now in
    let n = c.loop-pig.pig in
    let i = identity_of ys in
    let at : c.in-Ok.place ≡ n = search rules in
    let less : n < c.count-count.result = search rules in
    let here = at_reverse ys c.count-count.result n (c.in-Some.field-0-0, y) c.count-count.ensures less c.in-Some.ensures in
    one_more c.add_telegram.new.found.items c.loop-pig.found.items (packet_lines i (version_of y) n 0 y.packets) (telegram_lines i (n + 1) (drop (n + 1) (reverse ys))) (telegram_lines i n (drop n (reverse ys))) _
    (c.in_ok-add_telegram.ensures.ok ∙ ap (λ k. c.loop-pig.found.items ++ packet_lines c.identity-id.result (version_of y) k 0 y.packets) at ∙ ap (λ k. c.loop-pig.found.items ++ packet_lines k (version_of y) n 0 y.packets) c.identity-id.ensures)
    (over_found (λ pig t. packet_lines i (version_of t.1) pig 0 t.1.packets) n n (reverse ys) (c.in-Some.field-0-0, y) here)
    c.loop-pig.invariant
