use Rattle.std.proofs.Common.{sym, arith}
use Rattle.balise_index.proofs.order.Search.{none-near, place-is, seen-all, seen-one-more}
use Rattle.balise_index.proofs.tag_search.place_near.Goals.{then-near-len, else-near-len, else-far-near-via-then-far-near+else-stands_at-2, else-far-near-via-else-far-near}
use Rattle.balise_index.proofs.tag_search.place_near.Goals as goal

pub loop-far-init : goal.loop-far-init
loop-far-init c = record {
  within = elim c.if-near-len.branch [ then-near-len w ↦ omega (arith, w.near-is, w.if-near-len.true, c.len-len.ensures.len) | else-near-len w ↦ omega (arith, w.near-is, c.len-len.ensures.len) ];
  unseen = none-near c.args.tag c.args.order.now.items c.if-near-len.near;
}

pub returns-then-stands_at : goal.returns-then-stands_at
returns-then-stands_at c = sym (place-is c.args.tag c.args.order.now.items _ c.requires (sym c.if-stands_at.ensures))

pub returns-then-stands_at-2 : goal.returns-then-stands_at-2
returns-then-stands_at-2 c = sym (place-is c.args.tag c.args.order.now.items _ c.requires (sym c.if-stands_at-2.ensures))

pub loop-far-preserved : goal.loop-far-preserved
loop-far-preserved c = record {
  within = c.loop-far.invariant.within;
  unseen = seen-one-more c.args.tag c.args.order.now.items c.if-near-len.near c.loop-far.far (sym c.if-stands_at.ensures) (
      elim c.else-far-near.branch [
        | else-far-near-via-then-far-near+else-stands_at-2 w ↦ λ h. sym w.if-stands_at-2.ensures
        | else-far-near-via-else-far-near w ↦ λ h. absurd (omega (arith, h, w.if-far-near.false))
      ]
      ) c.loop-far.invariant.unseen;
}

pub returns : goal.returns
returns c = sym (seen-all c.args.tag c.args.order.now.items c.if-near-len.near c.loop-far.far c.loop-far.invariant.within (omega (arith, c.loop-far-test.false, c.len-len.ensures.len)) c.loop-far.invariant.unseen)
