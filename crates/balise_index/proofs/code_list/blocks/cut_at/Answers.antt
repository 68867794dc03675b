use Rattle.std.proofs.Common.{◌≡◌, ◌∙◌, ◌+◌, ◌<◌, ◌++◌, take, length, insert, vec_len, vec_capacity, arith, refl, sym, ap, subst, slice_set, List}
use Rattle.std.proofs.lemmas.List.{length-take, length-drop, take-append-drop}
use Rattle.balise_index.specs.Blocks.{IsCut}
use Rattle.balise_index.specs.declared.code_list.Block.{Block}
use Rattle.balise_index.proofs.blocks.Cut.{cut_is}
use Rattle.balise_index.proofs.blocks.Flat.{ok_then}
use Rattle.balise_index.proofs.blocks.Laid.{before-all, found, Like}
use Rattle.balise_index.proofs.code_list.blocks.cut_at.Goals as goal

pub overflow_add-start : goal.overflow_add-start
overflow_add-start c =
    let bs = c.args.blocks.now.items in
    omega (arith, (found c.args.b bs c.index.result.now c.requires.laid c.requires.within c.index.ensures).start, c.requires.part, before-all (c.args.b + 1) bs, c.requires.fits)

pub take_rest-codes-requires-clause-within : goal.take_rest-codes-requires-clause-within
take_rest-codes-requires-clause-within c =
    omega (arith, (found c.args.b c.args.blocks.now.items c.index_mut.result.now c.requires.laid c.requires.within c.index_mut.ensures.value).next, c.requires.part)

pub take_rest-codes-requires-clause-few : goal.take_rest-codes-requires-clause-few
take_rest-codes-requires-clause-few c = (found c.args.b c.args.blocks.now.items c.index_mut.result.now c.requires.laid c.requires.within c.index_mut.ensures.value).few

pub returns : goal.returns
returns c =
    let bs = c.args.blocks.now.items in
    let x = c.index_mut.result.now in
    let f = found c.args.b bs c.index.result.now c.requires.laid c.requires.within c.index.ensures in
    let m = found c.args.b bs x c.requires.laid c.requires.within c.index_mut.ensures.value in
    let y : Block = record { start = x.start; codes = c.take_rest-codes.new.codes } in
    let z : Block = record { start = c.index.result.now.start + c.args.cut; codes = c.take_rest-codes.result } in
    let first : length y.codes.items ≡ c.args.cut = ap length c.take_rest-codes.ensures.first ∙ omega (arith, length-take c.args.cut x.codes.items, m.next, c.requires.part) in
    let room : vec_len c.args.blocks.now < vec_capacity c.args.blocks.now = omega (arith, c.requires.room) in
    let put : c.insert.new.self.items ≡ insert (slice_set bs c.args.b y) (c.args.b + 1) z = ok_then {X = List Block} c.insert.result _ _ _ (c.insert.ensures.succeeds room) c.insert.ensures.items in
    let like : Like x y = record { start = refl; few = omega (arith, first, m.few, m.next, c.requires.part); room = omega (arith, m.room, c.take_rest-codes.ensures.same) } in
    subst (IsCut c.args.b c.args.cut bs) (sym put)
    (cut_is c.args.b c.args.cut bs x y z c.requires.within c.index_mut.ensures.value c.requires.laid like
    (ap (λ l. l ++ z.codes.items) c.take_rest-codes.ensures.first ∙ ap (λ l. take c.args.cut x.codes.items ++ l) c.take_rest-codes.ensures.rest ∙ take-append-drop c.args.cut x.codes.items)
    first (omega (arith, f.start, m.start)) (omega (arith, ap length c.take_rest-codes.ensures.rest, length-drop c.args.cut x.codes.items, m.few)) c.take_rest-codes.ensures.room)
