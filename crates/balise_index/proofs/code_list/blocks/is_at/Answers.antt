use Rattle.std.proofs.Common.{◌+◌, ◌<◌, length, arith}
use Rattle.std.proofs.lemmas.Bool.{ltb-true}
use Rattle.balise_index.proofs.blocks.Laid.{found}
use Rattle.balise_index.proofs.code_list.blocks.is_at.Goals as goal

pub returns-then-b-count-2 : goal.returns-then-b-count-2
returns-then-b-count-2 c =
    let bs = c.args.blocks.now.items in
    let within : c.args.b < length bs = omega (arith, c.if-b-count.false, c.len-count.ensures) in
    λ _. record {
      within = within;
      begun = omega (arith, c.if-i-index.false, (found c.args.b bs c.index.result.now c.requires.laid within c.index.ensures).start);
      last = λ w. absurd (omega (arith, w, c.if-b-count-2.true, c.len-count.ensures));
    }

pub returns : goal.returns
returns c =
    let bs = c.args.blocks.now.items in
    let within : c.args.b < length bs = omega (arith, c.if-b-count.false, c.len-count.ensures) in
    let next : c.args.b + 1 < length bs = omega (arith, c.if-b-count-2.false, c.len-count.ensures) in
    λ yes. record {
      within = within;
      begun = omega (arith, c.if-i-index.false, (found c.args.b bs c.index.result.now c.requires.laid within c.index.ensures).start);
      last = λ _. omega (arith, ltb-true c.args.i c.index-2.result.now.start yes, (found (c.args.b + 1) bs c.index-2.result.now c.requires.laid next c.index-2.ensures).start);
    }
