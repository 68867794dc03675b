-- What a store holds after a borrow of its bytes.
use Rattle.std.specs.Prelude.{ℕ, List}
use Rattle.std.specs.Borrow.{Lends, Fml, MutBor, Array, u8 as byte}
use Rattle.balise_bits.specs.Stored.{Placed, Stored, placed_items, with_items}
use Rattle.balise_bits.specs.Data.{data_with_items}
use Rattle.balise_bits.specs.declared.store.Data.{Data}
use Rattle.balise_bits.specs.contracts.store.Small as small
use Rattle.balise_bits.specs.contracts.store.Data as either
use Rattle.balise_bits.specs.contracts.store.Store as store

abbrev pub small_lends : MutBor Placed → MutBor (List ℕ) → Fml
small_lends v r = Lends small.the_row (Array byte 0) v r (placed_items v.now)

abbrev pub data_lends : MutBor Data → MutBor (List ℕ) → Fml
data_lends v r = Lends either.the_row (Array byte 0) v r (data_with_items v.now)

abbrev pub store_lends : MutBor Stored → MutBor (List ℕ) → Fml
store_lends v r = Lends store.the_row (Array byte 0) v r (with_items v.now)
