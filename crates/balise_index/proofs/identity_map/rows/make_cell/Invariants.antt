use Rattle.std.proofs.Common.{◌≡◌, length}
use Rattle.balise_index.specs.Rows.{Grows}
use Rattle.balise_index.proofs.identity_map.rows.make_cell.Given as goal

abbrev pub invariant-loop : goal.invariant-loop
invariant-loop l = Grows l.fn.rows.items l.rows.items × (length l.rows.items ≡ l.counter)
