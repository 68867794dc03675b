-- Fields as a caller gets them: variable, occurrence and value.
use Rattle.std.specs.Prelude.{ℕ, List, map}
use Rattle.balise_rules.specs.declared.variable.Var.{Var}
use Rattle.balise_rules.specs.Tags.{Key}
use Rattle.balise_rules.specs.Forms.{Fields}

-- a field under its key
abbrev pub keyed : Var × ℕ × ℕ → Key × ℕ
keyed f = ((f.0, f.1), f.2)

abbrev pub all_keyed : List (Var × ℕ × ℕ) → Fields
all_keyed fs = map keyed fs
