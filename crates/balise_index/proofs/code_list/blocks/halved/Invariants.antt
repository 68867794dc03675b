use Rattle.std.proofs.Common.{◌-◌, ◌<◌, ◌≤◌, length}
use Rattle.balise_index.specs.Blocks.{before}
use Rattle.balise_index.proofs.code_list.blocks.halved.Given as goal

abbrev pub invariant-halves : goal.invariant-halves
invariant-halves l = record {
  some : l.b < l.end;
  within : l.end ≤ length l.blocks.items;
  begun : before l.b l.blocks.items ≤ l.i;
  behind : l.end < length l.blocks.items → l.i < before l.end l.blocks.items;
}

abbrev pub decreases-halves : goal.decreases-halves
decreases-halves l = l.end - l.b
