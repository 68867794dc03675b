use Rattle.std.proofs.Common.{◌≡◌, ◌∙◌, ap, suc, Err, Ok, sym, arith}
use Rattle.std.proofs.lemmas.Result.{err_from_is_err_and}
use Rattle.balise_rules.specs.Addresses.{anchor_at, FoundPacket}
use Rattle.balise_rules.specs.Tagged.{without}
use Rattle.balise_rules.specs.Tags.{same_tag}
use Rattle.balise_history.proofs.Resolved.{packet_there}
use Rattle.balise_history.proofs.Places.{anchor-before, anchor-behind, moved}
use Rattle.balise_history.proofs.resolving.shift.Goals as goal
use Rattle.balise_history.proofs.resolving.shift.Goals.{then-at-pkt, else-at-pkt, After-packet_before}

abbrev found : After-packet_before → FoundPacket
found c = record { group = c.in_ok-g.g; place = c.in_ok-g.t; telegram = c.in_ok-g.telegram.now; tag = c.in_ok-g.p; packet = c.in_ok-g._packet }

-- what stands before a place without the packet stands before this place with it
same_anchor : (c : After-packet_before) → anchor_at c.args.at (without same_tag c.in_ok-g.p c.in_ok-g.telegram.now.packets) ≡ anchor_at c.if-at-pkt.with_it c.in_ok-g.telegram.now.packets
same_anchor c =
    let xs = c.in_ok-g.telegram.now.packets in
    let w = packet_there c.args.id c.args.pig c.args.pkt c.args.plan.now.groups (found c) c.in_ok-g.ensures.ok in
    elim c.if-at-pkt.branch [
      | then-at-pkt b ↦ anchor-before c.args.at c.args.pkt xs (c.in_ok-g.p, c.in_ok-g._packet) c.in_ok-g.ensures.tags w (omega arith) ∙ ap (λ k. anchor_at k xs) (sym b.with_it-is)
      | else-at-pkt b ↦ anchor-behind c.args.at c.args.pkt xs (c.in_ok-g.p, c.in_ok-g._packet) c.in_ok-g.ensures.tags w (omega arith) ∙ ap (λ k. anchor_at k xs) (let q : suc c.args.at ≡ c.if-at-pkt.with_it = omega arith in q)
    ]

pub returns-in_err-after-clause-fault : goal.returns-in_err-after-clause-fault
returns-in_err-after-clause-fault c =
    let b = (goal.at.returns-in_err-after-clause-fault c).After-packet_before in
    let p = err_from_is_err_and c.from_residual-in_err-after.result c.from_residual-in_err-after.ensures.1 in
    rw (p.1, p.2) (moved c.args.id c.args.pig c.args.pkt c.args.at c.if-at-pkt.with_it c.args.plan.now.groups (found b) (Err c.in_err-after.field-0.0) c.in_ok-g.ensures.ok (same_anchor b) (sym c.in_err-after.was ∙ c.packet_before.ensures))

pub returns-clause-ok : goal.returns-clause-ok
returns-clause-ok c =
    let b = (goal.at.returns-clause-ok c).After-packet_before in
    moved c.args.id c.args.pig c.args.pkt c.args.at c.if-at-pkt.with_it c.args.plan.now.groups (found b) (Ok c.in_ok-after.after) c.in_ok-g.ensures.ok (same_anchor b) (sym c.in_ok-after.was ∙ c.packet_before.ensures)
