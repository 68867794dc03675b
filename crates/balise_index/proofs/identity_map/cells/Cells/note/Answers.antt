use Rattle.std.proofs.Common.{◌≡◌, ℕ, Option, None, Some}
use Rattle.std.specs.Option.{option_or}
use Rattle.balise_index.specs.Cells.{far_cell}
use Rattle.balise_index.specs.Rows.{near_cell}
use Rattle.balise_index.proofs.identity_map.cells.Cells.note.Goals as goal

-- a row that grows says what it did, whatever the far cells say
beside_far : (far old new : Option ℕ) (k : ℕ) → ((i : ℕ) → old ≡ Some i → new ≡ Some i) → option_or far old ≡ Some k → option_or far new ≡ Some k
beside_far None old new k grown e = grown k e
beside_far (Some i) old new k grown e = e

pub returns-clause-kept : goal.returns-clause-kept
returns-clause-kept c q other k e =
    let old = c.args.self.now in
    c.set.ensures.kept q other k (beside_far (far_cell old.far q) (near_cell old.rows.items q) (near_cell c.make_cell.new.rows.items q) k (c.make_cell.ensures.kept q) e)
