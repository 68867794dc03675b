-- What a contract sees of stored bytes.
use Rattle.std.specs.Prelude.{ℕ, List, length}
use Rattle.std.specs.List.{refill}

pub record Placed : Type 0 where
  pub items : List ℕ

-- bytes, and how many of their bits count
pub record Stored : Type 0 where
  pub items : List ℕ
  pub len : ℕ

-- after a write of the bytes as a slice, which keeps their number
abbrev pub placed_items : Placed → List ℕ → Placed
placed_items v xs = record { items = refill (length v.items) v.items xs }

abbrev pub with_items : Stored → List ℕ → Stored
with_items v xs = record { items = refill (length v.items) v.items xs; len = v.len }
