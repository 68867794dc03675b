use Rattle.std.proofs.Common.{◌≤◌, length}
use Rattle.balise_index.proofs.order.Search.{Unseen}
use Rattle.balise_index.proofs.tag_search.place_near.Given as goal

abbrev pub invariant-loop-far : goal.invariant-loop-far
invariant-loop-far l = record {
  within : l.near ≤ length l.order.items;
  unseen : Unseen l.tag l.order.items l.near l.far;
}
