use Rattle.std.proofs.Common.{◌≡◌, ◌≤◌, vec_len}
use Rattle.balise_history.specs.Returned.{all_returned, AllReturn}
use Rattle.balise_history.proofs.Stacked.{remaining}
use Rattle.balise_history.proofs.history.History.all_back.Given as goal

abbrev pub invariant-loop-left : goal.invariant-loop-left
invariant-loop-left l = record {
  within : l.left ≤ vec_len l.self-inside.stack;
  rest : all_returned l.fn.self.stack l.fn.self.standing ≡ all_returned (remaining l.self-inside.stack.items l.left) l.entries.items;
  returns : AllReturn (remaining l.self-inside.stack.items l.left) l.entries.items;
}

abbrev pub decreases-loop-left : goal.decreases-loop-left
decreases-loop-left l = l.left
