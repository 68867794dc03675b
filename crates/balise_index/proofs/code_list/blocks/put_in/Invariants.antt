use Rattle.std.proofs.Common.{◌≡◌, insert, vec_len, vec_capacity}
use Rattle.balise_index.specs.Blocks.{flat}
use Rattle.balise_index.proofs.blocks.Starts.{Raised}
use Rattle.balise_index.proofs.code_list.blocks.put_in.Given as goal

abbrev pub invariant-loop-k : goal.invariant-loop-k
invariant-loop-k l = record {
  moved : Raised l.k l.blocks.items;
  put : flat l.blocks.items ≡ insert (flat l.fn.blocks.items) l.i l.fn.code;
  len : vec_len l.blocks ≡ vec_len l.fn.blocks;
  capacity : vec_capacity l.blocks ≡ vec_capacity l.fn.blocks;
}
