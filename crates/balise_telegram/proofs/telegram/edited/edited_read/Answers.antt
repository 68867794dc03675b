use Rattle.std.proofs.Common.{◌≡◌, ◌∙◌, ◌+◌, ◌++◌, List, Bool, length, ap, sym, arith}
use Rattle.balise_rules.specs.Bits.{ones}
use Rattle.balise_telegram.proofs.Seen.{left_shown}
use Rattle.balise_rules.specs.Telegram.{used}
use Rattle.balise_telegram.proofs.KeptTags.{base_more, tags_read, ground_read}
use Rattle.balise_telegram.proofs.telegram.edited.edited_read.Goals as goal

pub loop-i-preserved : goal.loop-i-preserved
loop-i-preserved c = c.in_ok-push.ensures.ok ∙ base_more c.loop-i.i c.loop-i.tags.items c.loop-i.invariant

pub returns-clause-ok : goal.returns-clause-ok
returns-clause-ok c = λ y o.
    let e = c.ends-end.ensures.ends y o.shown in
    let all : c.loop-i.i ≡ length y.packets = (let h = c.loop-i-test.false in let g = c.loop-i.auto.i-end in omega (arith, h, g, e.0)) in (
      tags_read y.packets c.loop-i.i c.loop-i.tags.items o.kept.0 c.loop-i.invariant all,
      ground_read c.args.bits.now c.in_ok-ground.ground c.put_ones.new.self y.padding (used y.packets) (c.ends-end.result.at + 8) c.in_ok-ground.ensures.ok c.put_ones.ensures e.1 (o.kept.1 ∙ ap (λ (l : List Bool). ones (used y.packets) ++ l) (sym (left_shown c.args.bits.now y o.shown))),
      e.1,
    )
