use Rattle.std.proofs.Common.{rules, ◌≡◌, ◌∙◌, ◌+◌, ◌-◌, ◌++◌, ◌<◌, cond, drop, length, reverse, slice_get, Some, ap, sym}
use Rattle.std.proofs.lemmas.List.Elements.{All-weaker}
use Rattle.balise_rules.specs.Forms.{Numbered}
use Rattle.balise_rules.specs.Packet.{IsSpelt}
use Rattle.balise_rules.specs.Plan.{country_of, identity_of}
use Rattle.balise_rules.specs.Telegram.{version_of}
use Rattle.balise_plan.proofs.GroupLists.{sound_at}
use Rattle.balise_review.specs.Reviews.{packet_links, telegram_links}
use Rattle.balise_review.proofs.FoundLines.{one_more, over_found, at_reverse}
use Rattle.balise_review.proofs.links.add_group.Goals as goal
use Rattle.balise_review.proofs.links.add_group.Goals.{then-turned, else-turned}

pub add_telegram-requires : goal.add_telegram-requires
add_telegram-requires c =
    let ys = c.args.group.now in
    let y = c.in-Some.telegram.now in
    let s = sound_at (identity_of ys) (length ys - 1) 0 ys c.if-turned.at c.in-Some.field-0-0 y c.requires.telegrams (sym c.in-Some.ensures) in
    record { numbered = All-weaker (λ p. IsSpelt (version_of y) p.1) (λ p. Numbered p.1.fields) (λ p d. d.numbered) y.packets s.packets }

pub loop-pig-preserved : goal.loop-pig-preserved
loop-pig-preserved c =
    let ys = c.args.group.now in
    let zs = cond c.args.turned (reverse ys) ys in
    let y = c.in-Some.telegram.now in
    let t = c.in-Some.field-0-0 in
    let n = c.loop-pig.pig in
    let i = c.args.id in
    let own = identity_of ys in
    let at : c.in-Ok.place ≡ n = search rules in
    let less : n < c.count-count.result = search rules in
    let here : slice_get zs n ≡ Some (t, y) = elim c.if-turned.branch [
      | then-turned w ↦ (let b = w.if-turned.true in rw b (at_reverse ys c.count-count.result n (t, y) c.count-count.ensures less (c.in-Some.ensures ∙ ap (slice_get ys) w.at-is)))
      | else-turned w ↦ (let b = w.if-turned.false in rw b (sym (c.in-Some.ensures ∙ ap (slice_get ys) w.at-is)))
    ] in
    one_more c.add_telegram.new.found.items c.loop-pig.found.items (packet_links i own (country_of y) n 0 y.packets) (telegram_links i own (n + 1) (drop (n + 1) zs)) (telegram_links i own n (drop n zs)) _
    (c.in_ok-add_telegram.ensures.ok ∙ ap (λ k. c.loop-pig.found.items ++ packet_links i c.identity-own.result (country_of y) k 0 y.packets) at ∙ ap (λ k. c.loop-pig.found.items ++ packet_links i k (country_of y) n 0 y.packets) c.identity-own.ensures)
    (over_found (λ pig q. packet_links i own (country_of q.1) pig 0 q.1.packets) n n zs (t, y) here)
    c.loop-pig.invariant
