-- Where bytes are stored.
use Rattle.std.specs.Prelude.{ℕ, ◌-◌, ◌*◌, ◌^◌, ◌≤◌, ◌<◌, List, length}
use Rattle.std.specs.Vec as vec
use Rattle.balise_bits.specs.Stored.{Stored, placed_items}
use Rattle.balise_bits.specs.declared.store.Data.{Data}
use Rattle.balise_bits.specs.declared.store.Data.TheVariants.{Inline, Heap}

abbrev pub data_items : Data → List ℕ
data_items (Inline spare v) = v.items
data_items (Heap spare v) = v.items

-- how many of the last bits don't count
abbrev pub data_spare : Data → ℕ
data_spare (Inline spare v) = spare
data_spare (Heap spare v) = spare

abbrev pub data_view : Data → Stored
data_view d = record { items = data_items d; len = 8 * length (data_items d) - data_spare d }

-- the bits are counted by numbers of 64 bits
pub record IsSound (d : Data) : Type 0 where
  pub spare : data_spare d ≤ 8 * length (data_items d)
  pub fits : 8 * length (data_items d) < 2 ^ 64

abbrev pub data_with_items : Data → List ℕ → Data
data_with_items (Inline spare v) xs = Inline spare (placed_items v xs)
data_with_items (Heap spare v) xs = Heap spare (vec.with_items v xs)
