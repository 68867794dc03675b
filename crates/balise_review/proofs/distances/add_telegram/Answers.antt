use Rattle.std.proofs.Common.{rules, ◌≡◌, ◌∙◌, ◌+◌, ◌∷◌, ◌++◌, length, ap, arith}
use Rattle.balise_rules.specs.Review.{lines_at, looked_in}
use Rattle.balise_rules.specs.Telegram.{version_of}
use Rattle.balise_review.specs.Reviews.{packet_lines}
use Rattle.balise_review.proofs.FoundLines.{one_more, over_next}
use Rattle.balise_review.proofs.distances.add_telegram.Goals as goal

pub loop-packet-preserved : goal.loop-packet-preserved
loop-packet-preserved c =
    let x = c.in-Some.packet in
    let left = c.next.new.self in
    let here : c.loop-packet.packet-iterator ≡ (c.in-Some.field-0-0, x) ∷ left = c.in-Some.ensures.steps in
    let at : c.in-Ok.place ≡ c.loop-packet.pkt = search rules in
    let i = c.args.id in
    let pig = c.args.pig in
    let v = version_of c.args.telegram.now in
    let n = c.loop-packet.pkt in
    record {
      lines = one_more c.add_packet.new.found.items c.loop-packet.found.items (lines_at i pig n (looked_in v x)) (packet_lines i v pig (n + 1) left) (packet_lines i v pig n c.loop-packet.packet-iterator) _
          (c.in_ok-add_packet.ensures.ok ∙ ap (λ k. c.loop-packet.found.items ++ lines_at i pig k (looked_in c.version-version.result x)) at ∙ ap (λ k. c.loop-packet.found.items ++ lines_at i pig n (looked_in k x)) c.version-version.ensures)
          (ap (packet_lines i v pig n) here ∙ over_next (λ pkt q. lines_at i pig pkt (looked_in v q.1)) n (c.in-Some.field-0-0, x) left)
          c.loop-packet.invariant.lines;
      many = let m = c.loop-packet.invariant.many in let a = ap length here in omega (arith, m, a);
    }
