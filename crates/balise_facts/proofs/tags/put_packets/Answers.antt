-- The lines of packets are written one after another, by their places.
use Rattle.std.proofs.Common.{◌∙◌, ap, arith, length}
use Rattle.balise_lines.proofs.PartsWritten.{wrote_none, wrote_more, wrote_some, wrote_all}
use Rattle.balise_facts.specs.TagTexts.{packet_lines}
use Rattle.balise_facts.proofs.TagLines.{packet_left}
use Rattle.balise_facts.proofs.tags.put_packets.Goals as goal

pub loop-tag-init : goal.loop-tag-init
loop-tag-init g c =
    let all = c.into_iter-tag-iterator.ensures.into_iter_gives ∙ c.packets-tag-items.ensures in
    let text = packet_lines c.args.id c.args.pig 0 c.args.telegram.now.packets in
    record { wrote = rw all (wrote_none _ text _); left = omega (arith, ap length all) }

pub returns-in-Err : goal.returns-in-Err
returns-in-Err g c =
    wrote_some _ _ _ _ _ _ _ _ _ (packet_left _ _ _ _ _ _ c.in-Some.ensures.steps) c.loop-tag.invariant.wrote
    c.in-Err.ensures

pub overflow_add-pkt : goal.overflow_add-pkt
overflow_add-pkt g c = omega (
  arith,
  c.loop-tag.invariant.left,
  ap length c.in-Some.ensures.steps,
  c.count-count.ensures.count,
  c.count-count.type_inv,
)

pub loop-tag-preserved : goal.loop-tag-preserved
loop-tag-preserved g c = record {
  wrote = wrote_more _ _ _ _ _ _ _ _ (packet_left _ _ _ _ _ _ c.in-Some.ensures.steps) c.loop-tag.invariant.wrote
      c.in_default.ensures;
  left = omega (arith, c.loop-tag.invariant.left, ap length c.in-Some.ensures.steps);
}

pub returns : goal.returns
returns g c =
    wrote_all _ _ _ _ _ (ap (packet_lines _ _ _) c.in-None.ensures.steps.0) c.loop-tag.invariant.wrote
