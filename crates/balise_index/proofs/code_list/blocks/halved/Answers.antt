use Rattle.std.proofs.Common.{◌+◌, ◌-◌, ◌/◌, ◌<◌, length, arith, ℕ}
use Rattle.balise_index.proofs.blocks.Laid.{found}
use Rattle.balise_index.proofs.code_list.blocks.halved.Goals as goal

pub halves-preserved-then-index-i : goal.halves-preserved-then-index-i
halves-preserved-then-index-i c =
    let bs = c.args.blocks.now.items in
    let m : ℕ = c.halves.b + (c.halves.end - c.halves.b) / 2 in
    let within : m < length bs = omega (arith, c.halves.invariant.within, c.halves-test.true) in
    record {
      some = omega (arith, c.halves-test.true);
      within = c.halves.invariant.within;
      begun = omega (arith, c.if-index-i.true, (found m bs c.index.result.now c.requires.laid within c.index.ensures).start);
      behind = c.halves.invariant.behind;
    }

pub halves-preserved : goal.halves-preserved
halves-preserved c =
    let bs = c.args.blocks.now.items in
    let m : ℕ = c.halves.b + (c.halves.end - c.halves.b) / 2 in
    let within : m < length bs = omega (arith, c.halves.invariant.within, c.halves-test.true) in
    record {
      some = omega (arith, c.halves-test.true);
      within = omega (arith, within);
      begun = c.halves.invariant.begun;
      behind = λ w. omega (arith, c.if-index-i.false, (found m bs c.index.result.now c.requires.laid within c.index.ensures).start);
    }
