use Rattle.std.proofs.Common.{arith}
use Rattle.balise_index.proofs.blocks.Laid.{found}
use Rattle.balise_index.proofs.code_list.blocks.split.Goals as goal

pub overflow_sub-at : goal.overflow_sub-at
overflow_sub-at c =
    omega (arith, (found c.args.b c.args.blocks.now.items c.index.result.now c.requires.laid c.requires.there.within c.index.ensures).start, c.requires.there.begun)

pub cut_at-requires-clause-part : goal.cut_at-requires-clause-part
cut_at-requires-clause-part c =
    let g = found c.args.b c.args.blocks.now.items c.index-2.result.now c.requires.laid c.requires.there.within c.index-2.ensures in
    omega (arith, g.next, c.len-len.ensures, c.index-2.result.now.codes.ok.0)

pub returns-then-at-len-clause-there : goal.returns-then-at-len-clause-there
returns-then-at-len-clause-there c =
    let f = found c.args.b c.args.blocks.now.items c.index.result.now c.requires.laid c.requires.there.within c.index.ensures in
    let cut = c.cut_at.ensures in
    record {
      within = omega (arith, cut.more, c.requires.there.within);
      begun = omega (arith, cut.second, c.if-at-len.true, f.start, c.requires.there.begun);
      end = omega (arith, cut.third, c.requires.there.end);
    }

pub returns-then-at-len-clause-room : goal.returns-then-at-len-clause-room
returns-then-at-len-clause-room c =
    let g = found c.args.b c.args.blocks.now.items c.index-2.result.now c.requires.laid c.requires.there.within c.index-2.ensures in
    let cut = c.cut_at.ensures in
    omega (arith, cut.second, cut.third, g.next, c.len-len.ensures, c.index-2.result.now.codes.ok.0)

pub cut_at-requires-2-clause-part : goal.cut_at-requires-2-clause-part
cut_at-requires-2-clause-part c =
    let g = found c.args.b c.args.blocks.now.items c.index-2.result.now c.requires.laid c.requires.there.within c.index-2.ensures in
    omega (arith, g.next, c.len-len.ensures, c.index-2.result.now.codes.ok.0)

pub returns-then-at-half-clause-there : goal.returns-then-at-half-clause-there
returns-then-at-half-clause-there c =
    let cut = c.cut_at-2.ensures in
    record {
      begun = omega (arith, cut.second, c.if-at-half.true, (found c.args.b c.args.blocks.now.items c.index.result.now c.requires.laid c.requires.there.within c.index.ensures).start, c.requires.there.begun);
      within = omega (arith, cut.more, c.requires.there.within);
      end = omega (arith, cut.third, c.requires.there.end);
    }

pub returns-then-at-half-clause-room : goal.returns-then-at-half-clause-room
returns-then-at-half-clause-room c =
    let g = found c.args.b c.args.blocks.now.items c.index-2.result.now c.requires.laid c.requires.there.within c.index-2.ensures in
    let cut = c.cut_at-2.ensures in
    omega (arith, cut.second, cut.third, g.next, g.few, c.len-len.ensures, c.index-2.result.now.codes.ok.0)

pub returns-else-at-half-clause-there : goal.returns-else-at-half-clause-there
returns-else-at-half-clause-there c =
    let f = found c.args.b c.args.blocks.now.items c.index.result.now c.requires.laid c.requires.there.within c.index.ensures in
    record {
      within = omega (arith, c.cut_at-2.ensures.more, c.requires.there.within);
      begun = omega (arith, c.cut_at-2.ensures.first, c.requires.there.begun);
      end = omega (arith, c.cut_at-2.ensures.second, c.if-at-half.false, f.start, c.requires.there.begun);
    }

pub returns-else-at-half-clause-room : goal.returns-else-at-half-clause-room
returns-else-at-half-clause-room c =
    let g = found c.args.b c.args.blocks.now.items c.index-2.result.now c.requires.laid c.requires.there.within c.index-2.ensures in
    let cut = c.cut_at-2.ensures in
    omega (arith, cut.first, cut.second, g.next, g.few, c.len-len.ensures, c.index-2.result.now.codes.ok.0)
