use Rattle.std.proofs.Common.{◌≡◌, remove, vec_len, vec_capacity}
use Rattle.balise_index.specs.Blocks.{flat}
use Rattle.balise_index.proofs.blocks.Starts.{Lowered}
use Rattle.balise_index.proofs.code_list.blocks.take_out.Given as goal

abbrev pub invariant-loop-k : goal.invariant-loop-k
invariant-loop-k l = record {
  moved : Lowered l.k l.blocks.items;
  taken : flat l.blocks.items ≡ remove (flat l.fn.blocks.items) l.i;
  len : vec_len l.blocks ≡ vec_len l.fn.blocks;
  capacity : vec_capacity l.blocks ≡ vec_capacity l.fn.blocks;
}
