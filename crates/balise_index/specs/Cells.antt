-- In which slot each identity stands: a cell in the row of its country says so, or one that is kept far from the rows.
use Rattle.std.specs.Prelude.{◌≡◌, ℕ, false, Option, Some}
use Rattle.std.specs.BTreeMap.{BTreeMap, get}
use Rattle.std.specs.Option.{option_or}
use Rattle.std.specs.declared.cmp.Ordering.{Ordering}
use Rattle.balise_rules.specs.declared.identity.Id.{Id}
use Rattle.balise_rules.specs.Tags.{same_id}
use Rattle.balise_rules.specs.contracts.identity.IdOrd.TheImpl as identity
use Rattle.balise_index.specs.declared.identity_map.cells.Cells.{Cells}
use Rattle.balise_index.specs.Rows.{near_cell}

abbrev pub compare_id : Id → Id → Ordering
compare_id = identity.cmp-value.it

-- what the far cell of an identity says
abbrev pub far_cell : BTreeMap Id ℕ → Id → Option ℕ
far_cell far i = get compare_id far i

-- what the cell of an identity says: its far one, if it has one
abbrev pub cell_of : Cells → Id → Option ℕ
cell_of c i = option_or (far_cell c.far i) (near_cell c.rows.items i)

-- the cell of each other identity says what it did
abbrev pub KeepsOthers : (Id → Option ℕ) → (Id → Option ℕ) → Id → Type 0
KeepsOthers old new i = (q : Id) → same_id i q ≡ false → (k : ℕ) → old q ≡ Some k → new q ≡ Some k
