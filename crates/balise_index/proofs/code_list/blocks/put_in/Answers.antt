use Rattle.std.proofs.Common.{◌≡◌, ◌∙◌, ◌+◌, ◌-◌, ◌<◌, ◌≤◌, length, insert, vec_len, vec_capacity, arith, refl, ap, ℕ, List}
use Rattle.std.proofs.lemmas.List.Edits.{length-insert}
use Rattle.balise_index.specs.Blocks.{flat}
use Rattle.balise_index.specs.declared.code_list.Block.{Block}
use Rattle.balise_index.proofs.blocks.Flat.{ok_then}
use Rattle.balise_index.proofs.blocks.Laid.{before-all, found, Like}
use Rattle.balise_index.proofs.blocks.Starts.{put_first, raised_all, raised_first, raised_next, raised_start, same_next}
use Rattle.balise_index.proofs.code_list.blocks.put_in.Goals as goal

pub overflow_sub-at : goal.overflow_sub-at
overflow_sub-at c =
    omega (arith, (found c.args.b c.args.blocks.now.items c.index.result.now c.requires.laid c.requires.there.within c.index.ensures).start, c.requires.there.begun)

-- the codes fit in
within : (c : goal.After-insert-arg-1) → c.args.i - c.index.result.now.start ≤ vec_len c.index_mut.result.now.codes
within c =
    let bs = c.args.blocks.now.items in
    let f = found c.args.b bs c.index.result.now c.requires.laid c.requires.there.within c.index.ensures in
    let m = found c.args.b bs c.index_mut.result.now c.requires.laid c.requires.there.within c.index_mut.ensures.value in
    omega (arith, f.start, m.next, c.requires.there.end, c.requires.there.begun, c.index_mut.result.now.codes.ok.0)

pub insert-requires : goal.insert-requires
insert-requires c = within c

pub loop-k-init : goal.loop-k-init
loop-k-init c =
    let bs = c.args.blocks.now.items in
    let b = c.args.b in
    let x = c.index_mut.result.now in
    let y : Block = record { start = x.start; codes = c.insert.new.self } in
    let f = found b bs c.index.result.now c.requires.laid c.requires.there.within c.index.ensures in
    let m = found b bs x c.requires.laid c.requires.there.within c.index_mut.ensures.value in
    let room : vec_len x.codes < vec_capacity x.codes = omega (arith, m.next, m.room, c.requires.room, x.codes.ok.0) in
    let put : c.insert.new.self.items ≡ insert x.codes.items (c.args.i - c.index.result.now.start) c.args.code = ok_then {X = List ℕ} c.insert.result _ _ _ (c.insert.ensures.succeeds room) c.insert.ensures.items in
    let len : vec_len c.insert.new.self ≡ vec_len x.codes + 1 = ok_then {X = ℕ} c.insert.result _ _ _ (c.insert.ensures.succeeds room) c.insert.ensures.len in
    let more : length y.codes.items ≡ length x.codes.items + 1 = omega (arith, len, x.codes.ok.0, c.insert.new.self.ok.0) in
    let like : Like x y = record { start = refl; few = omega (arith, more, m.next, c.requires.room); room = omega (arith, m.room, c.insert.ensures.capacity) } in
    let start : c.index.result.now.start ≡ x.start = omega (arith, f.start, m.start) in
    record {
      moved = raised_first b bs x c.requires.there.within c.index_mut.ensures.value y c.requires.laid like more;
      put = put_first b bs x c.requires.there.within c.index_mut.ensures.value y c.requires.laid like c.args.i c.args.code c.requires.there.begun c.requires.there.end (put ∙ ap (λ (n : ℕ). insert x.codes.items (c.args.i - n) c.args.code) start);
      len = refl;
      capacity = refl;
    }

pub overflow_add-index_mut : goal.overflow_add-index_mut
overflow_add-index_mut c =
    let bs = c.loop-k.blocks.items in
    let k = c.loop-k.k in
    let here : k < length bs = omega (arith, c.loop-k-test.true, c.len-k-end.ensures, c.loop-k.invariant.len, c.loop-k.blocks.ok.0) in
    let old = flat c.args.blocks.now.items in
    let long : length (flat bs) ≡ length old + 1 = ap length c.loop-k.invariant.put ∙ length-insert old c.args.i c.args.code (omega (arith, c.requires.there.end, before-all (c.args.b + 1) c.args.blocks.now.items)) in
    omega (arith, raised_start k bs c.index_mut-in-loop-k.result.now here c.index_mut-in-loop-k.ensures.value c.loop-k.invariant.moved, before-all k bs, long, c.requires.fits)

pub loop-k-preserved : goal.loop-k-preserved
loop-k-preserved c =
    let bs = c.loop-k.blocks.items in
    let k = c.loop-k.k in
    let x = c.index_mut-in-loop-k.result.now in
    let here : k < length bs = omega (arith, c.loop-k-test.true, c.len-k-end.ensures, c.loop-k.invariant.len, c.loop-k.blocks.ok.0) in
    record {
      moved = raised_next k bs x here c.index_mut-in-loop-k.ensures.value c.loop-k.invariant.moved;
      put = same_next k bs x here c.index_mut-in-loop-k.ensures.value (x.start + 1) ∙ c.loop-k.invariant.put;
      len = c.loop-k.invariant.len;
      capacity = c.loop-k.invariant.capacity;
    }

pub returns-clause-laid : goal.returns-clause-laid
returns-clause-laid c =
    raised_all c.loop-k.k c.loop-k.blocks.items c.loop-k.invariant.moved (omega (arith, c.loop-k-test.false, c.len-k-end.ensures, c.loop-k.invariant.len, c.loop-k.blocks.ok.0))
