-- Where identities stand: a row for each country, with a cell for each number.
use Rattle.std.specs.Prelude.{◌≡◌, ◌+◌, ◌*◌, ◌/◌, ℕ, List, Option, None, Some, length, option_and_then, slice_get}
use Rattle.std.specs.declared.vec.Vec.{Vec}
use Rattle.balise_rules.specs.declared.identity.Id.{Id}

-- what the cell of an identity in its row says
abbrev pub near_cell : {Z : Type 0} → List (Vec ℕ Z) → Id → Option ℕ
near_cell {Z} rows i = option_and_then (λ (row : Vec ℕ Z). slice_get row.items i.number) (slice_get rows i.country)

-- each cell that was there says what it did
abbrev pub Grows : {Z : Type 0} → List (Vec ℕ Z) → List (Vec ℕ Z) → Type 0
Grows old new = (q : Id) (i : ℕ) → near_cell old q ≡ Some i → near_cell new q ≡ Some i

-- how many cells a row has
abbrev pub row_len : {Z : Type 0} → Option (Vec ℕ Z) → ℕ
row_len None = 0
row_len (Some row) = length row.items

-- how long a row is made for a number
abbrev pub len_for : ℕ → ℕ
len_for number = number / 16 * 16 + 16
