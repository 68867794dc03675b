use Rattle.std.proofs.Common.{◌∙◌, ap, arith, slice_get}
use Rattle.balise_index.proofs.blocks.CodeAt.{at_least, inside, code_there}
use Rattle.balise_index.proofs.code_list.CodeList.get.Goals as goal

pub overflow_sub-i : goal.overflow_sub-i
overflow_sub-i c = at_least c.args.i c.block_of.result c.self.inside.blocks.items c.index-block.result.now c.self.invariant.0 c.block_of.ensures c.index-block.ensures

pub index-requires : goal.index-requires
index-requires c =
    omega (arith, inside c.args.i c.block_of.result c.self.inside.blocks.items c.index-block.result.now c.self.invariant.0 c.block_of.ensures c.index-block.ensures (omega (arith, c.if-i-self.false, c.self.invariant.1)), c.index-block.result.now.codes.ok.0)

pub returns : goal.returns
returns c =
    code_there c.args.i c.block_of.result c.self.inside.blocks.items c.index-block.result.now c.self.invariant.0 c.block_of.ensures c.index-block.ensures c.index.result.now (omega (arith, c.if-i-self.false, c.self.invariant.1)) c.index.ensures
    ∙ ap (λ v. slice_get v.items c.args.i) c.self.view_is
