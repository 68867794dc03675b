-- Forms in which only some variables say what follows them.
use Rattle.std.specs.Prelude.{◌≡◌, ℕ, Bool, false}
use Rattle.balise_rules.specs.declared.variable.Var.{Var}
use Rattle.balise_rules.specs.Forms.{Form, done, shut, never, valued}

-- only variables of a set say what follows them
abbrev pub IsSteady : (Var → Bool) → Form → Type 0
IsSteady S done = Unit {0}
IsSteady S shut = Unit {0}
IsSteady S never = Unit {0}
IsSteady S (valued v next) = (S v ≡ false → (m n : ℕ) → next m ≡ next n) × ((n : ℕ) → IsSteady S (next n))
