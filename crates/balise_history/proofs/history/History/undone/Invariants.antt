use Rattle.std.proofs.Common.{◌≡◌, map, take}
use Rattle.balise_history.proofs.Stacked.{serial_of}
use Rattle.balise_history.proofs.history.History.undone.Given as goal

abbrev pub invariant-loop-undone : goal.invariant-loop-undone
invariant-loop-undone l = l.serials.items ≡ map serial_of (take l.undone-index l.undone-items)
