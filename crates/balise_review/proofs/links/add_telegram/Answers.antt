use Rattle.std.proofs.Common.{rules, ◌≡◌, ◌∙◌, ◌+◌, ◌∷◌, ◌++◌, All, length, ap, arith, subst}
use Rattle.std.proofs.lemmas.List.Elements.{All-head, All-rest}
use Rattle.balise_rules.specs.Forms.{Numbered}
use Rattle.balise_rules.specs.Plan.{country_of}
use Rattle.balise_rules.specs.Review.{lines_at, links_looked}
use Rattle.balise_review.specs.Reviews.{named_in, packet_links}
use Rattle.balise_review.proofs.FoundLines.{one_more, over_next, named_is_looked}
use Rattle.balise_review.proofs.links.add_telegram.Goals as goal

pub loop-packet-preserved : goal.loop-packet-preserved
loop-packet-preserved c =
    let x = c.in-Some.packet in
    let left = c.next.new.self in
    let here : c.loop-packet.packet-iterator ≡ (c.in-Some.field-0-0, x) ∷ left = c.in-Some.ensures.steps in
    let numbered : Numbered x.fields = All-head (λ p. Numbered p.1.fields) (c.in-Some.field-0-0, x) left (subst (All (λ p. Numbered p.1.fields)) here c.loop-packet.invariant.numbered) in
    let at : c.in-Ok.place ≡ c.loop-packet.pkt = search rules in
    let i = c.args.id in
    let own = c.args.own in
    let pig = c.args.pig in
    let k = country_of c.args.telegram.now in
    let n = c.loop-packet.pkt in
    let in_force : c.identity-country.result.country ≡ k = search rules in
    record {
      lines = one_more c.add_packet.new.found.items c.loop-packet.found.items (lines_at own pig n (links_looked i k x)) (packet_links i own k pig (n + 1) left) (packet_links i own k pig n c.loop-packet.packet-iterator) _
          (c.in_ok-add_packet.ensures.ok ∙ ap (λ m. c.loop-packet.found.items ++ lines_at own pig m (named_in i c.identity-country.result.country x)) at ∙ ap (λ m. c.loop-packet.found.items ++ lines_at own pig n (named_in i m x)) in_force
          ∙ ap (λ l. c.loop-packet.found.items ++ lines_at own pig n l) (named_is_looked i k x numbered))
          (ap (packet_links i own k pig n) here ∙ over_next (λ pkt q. lines_at own pig pkt (links_looked i k q.1)) n (c.in-Some.field-0-0, x) left)
          c.loop-packet.invariant.lines;
      many = let m = c.loop-packet.invariant.many in let a = ap length here in omega (arith, m, a);
      numbered = All-rest (λ p. Numbered p.1.fields) (c.in-Some.field-0-0, x) left c.loop-packet.packet-iterator here c.loop-packet.invariant.numbered;
    }
