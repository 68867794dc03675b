-- A header or a packet as it is given.
use Rattle.std.specs.Prelude.{ℕ, Bool, List, [], ◌∷◌, ◌++◌}
use Rattle.balise_rules.specs.declared.variable.Var.{Var}
use Rattle.balise_codec.specs.Spelling.{Values}

-- The number of the line that begins it, the values of its fields in their order, and the bits after them.
pub record Given : Type 0 where
  pub line : ℕ
  pub values : Values
  pub rest : List Bool

-- before its first field
abbrev pub begun_at : ℕ → Given
begun_at n = record { line = n; values = []; rest = [] }

abbrev pub with_value : Var → ℕ → Given → Given
with_value v x s = record s { values = s.values ++ (v, x) ∷ [] }

abbrev pub with_rest : List Bool → Given → Given
with_rest b s = record s { rest = b }
