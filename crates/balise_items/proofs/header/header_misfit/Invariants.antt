use Rattle.std.proofs.Common.{◌≤◌, length}
use Rattle.balise_items.proofs.HeaderValues.{HasCome}
use Rattle.balise_items.proofs.header.header_misfit.Given as goal

abbrev pub invariant-loop-place : goal.invariant-loop-place
invariant-loop-place l = (l.place ≤ length l.values) × HasCome l.values l.place
