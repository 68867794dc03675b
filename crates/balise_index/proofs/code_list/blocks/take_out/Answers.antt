use Rattle.std.proofs.Common.{◌≡◌, ◌∙◌, ◌+◌, ◌-◌, ◌<◌, length, remove, arith, refl, ap, ℕ}
use Rattle.balise_index.specs.declared.code_list.Block.{Block}
use Rattle.balise_index.proofs.blocks.Laid.{found, Like}
use Rattle.balise_index.proofs.blocks.Starts.{lowered_all, lowered_first, lowered_next, lowered_start, same_next, taken_first}
use Rattle.balise_index.proofs.code_list.blocks.take_out.Goals as goal

pub overflow_sub-at : goal.overflow_sub-at
overflow_sub-at c =
    omega (arith, (found c.args.b c.args.blocks.now.items c.index.result.now c.requires.laid c.requires.there.within c.index.ensures).start, c.requires.there.begun)

pub remove-requires : goal.remove-requires
remove-requires c =
    let bs = c.args.blocks.now.items in
    let f = found c.args.b bs c.index.result.now c.requires.laid c.requires.there.within c.index.ensures in
    let m = found c.args.b bs c.index_mut.result.now c.requires.laid c.requires.there.within c.index_mut.ensures.value in
    omega (arith, f.start, m.next, c.requires.less, c.requires.there.begun, c.index_mut.result.now.codes.ok.0)

pub loop-k-init : goal.loop-k-init
loop-k-init c =
    let bs = c.args.blocks.now.items in
    let x = c.index_mut.result.now in
    let y : Block = record { start = x.start; codes = c.remove.new.self } in
    let m = found c.args.b bs x c.requires.laid c.requires.there.within c.index_mut.ensures.value in
    let less : length x.codes.items ≡ length y.codes.items + 1 = omega (arith, c.remove.ensures.len, x.codes.ok.0, c.remove.new.self.ok.0) in
    let like : Like x y = record { start = refl; few = omega (arith, less, m.few); room = omega (arith, m.room, c.remove.ensures.capacity) } in
    let f = found c.args.b bs c.index.result.now c.requires.laid c.requires.there.within c.index.ensures in
    let start : c.index.result.now.start ≡ x.start = omega (arith, f.start, m.start) in
    let items = c.remove.ensures.items ∙ ap (λ (n : ℕ). remove x.codes.items (c.args.i - n)) start in
    record {
      len = refl;
      capacity = refl;
      moved = lowered_first c.args.b bs x c.requires.there.within c.index_mut.ensures.value y c.requires.laid like less;
      taken = taken_first c.args.b bs x c.requires.there.within c.index_mut.ensures.value y c.requires.laid like c.args.i c.requires.there.begun c.requires.less items;
    }

pub overflow_sub-index_mut : goal.overflow_sub-index_mut
overflow_sub-index_mut c =
    let here : c.loop-k.k < length c.loop-k.blocks.items = omega (arith, c.loop-k-test.true, c.len-k-end.ensures, c.loop-k.invariant.len, c.loop-k.blocks.ok.0) in
    omega (arith, lowered_start c.loop-k.k c.loop-k.blocks.items c.index_mut-in-loop-k.result.now here c.index_mut-in-loop-k.ensures.value c.loop-k.invariant.moved)

pub loop-k-preserved : goal.loop-k-preserved
loop-k-preserved c =
    let here : c.loop-k.k < length c.loop-k.blocks.items = omega (arith, c.loop-k-test.true, c.len-k-end.ensures, c.loop-k.invariant.len, c.loop-k.blocks.ok.0) in
    let x = c.index_mut-in-loop-k.result.now in
    record {
      len = c.loop-k.invariant.len;
      capacity = c.loop-k.invariant.capacity;
      moved = lowered_next c.loop-k.k c.loop-k.blocks.items x here c.index_mut-in-loop-k.ensures.value c.loop-k.invariant.moved;
      taken = same_next c.loop-k.k c.loop-k.blocks.items x here c.index_mut-in-loop-k.ensures.value (x.start - 1) ∙ c.loop-k.invariant.taken;
    }

pub returns-clause-laid : goal.returns-clause-laid
returns-clause-laid c =
    lowered_all c.loop-k.k c.loop-k.blocks.items c.loop-k.invariant.moved (omega (arith, c.loop-k-test.false, c.len-k-end.ensures, c.loop-k.invariant.len, c.loop-k.blocks.ok.0))
